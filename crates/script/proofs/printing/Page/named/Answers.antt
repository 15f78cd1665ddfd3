use mathlib.Core.Path.{refl}
use native.Mathlib.Omega.{arith}
use Rattle.script.proofs.Puts.{puts_both, room_left}
use Rattle.script.proofs.printing.Page.named.Goals as goal

pub decimal-requires : goal.decimal-requires
decimal-requires c = room_left _ 20 c.requires c.text.ensures (omega arith)

pub returns : goal.returns
returns c = puts_both c.text.ensures c.decimal.ensures refl
