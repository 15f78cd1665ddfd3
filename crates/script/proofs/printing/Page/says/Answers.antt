use mathlib.Core.Path.{refl}
use mathlib.Core.List.{append_assoc}
use native.Mathlib.Omega.{arith}
use lib.ListN.{length-append}
use Rattle.script.proofs.Decimals.{length_decimal}
use Rattle.script.proofs.Puts.{puts_both, room_left}
use Rattle.script.proofs.printing.Page.says.Goals as goal

pub named-requires : goal.named-requires
named-requires c = room_left 64 21 c.requires c.decimal.ensures (omega (arith, length_decimal c.args.number))

pub last-requires : goal.last-requires
last-requires c =
    let a = c.args in
    room_left 64 22 c.requires (puts_both c.decimal.ensures c.named.ensures refl) (simp length-append (omega (arith, length_decimal a.number, length_decimal a.answer)))

pub returns : goal.returns
returns c = puts_both (puts_both c.decimal.ensures c.named.ensures refl) c.last.ensures (simp append_assoc)
