use mathlib.Core.Path.{refl}
use native.Mathlib.Omega.{arith}
use lib.ListN.{length-append}
use Rattle.script.specs.Decimal.{decimal}
use Rattle.script.proofs.Decimals.{length_decimal}
use Rattle.script.proofs.Puts.{puts_both, room_left}
use Rattle.script.proofs.printing.Page.last.Goals as goal

pub text-requires : goal.text-requires
text-requires c = let a = c.args in room_left _ 1 c.requires c.named.ensures (omega (arith, length-append a.text.now (decimal a.n), length_decimal a.n))

pub returns : goal.returns
returns c = puts_both c.named.ensures c.text.ensures refl
