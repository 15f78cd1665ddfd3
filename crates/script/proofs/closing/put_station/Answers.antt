use mathlib.Core.Path.{refl}
use native.Mathlib.Omega.{arith}
use lib.ListN.{length-append}
use Rattle.script.proofs.Decimals.{length_decimal}
use Rattle.script.proofs.Puts.{puts_both, room_left}
use Rattle.script.proofs.closing.put_station.Goals as goal

pub named-requires-2 : goal.named-requires-2
named-requires-2 c = room_left 128 27 c.requires c.named.ensures (omega (arith, length_decimal c.args.k))

pub named-requires-3 : goal.named-requires-3
named-requires-3 c =
    let a = c.args in
    room_left 128 28 c.requires (puts_both c.named.ensures c.named-2.ensures refl) (simp length-append (omega (arith, length_decimal a.k, length_decimal a.s.value)))

pub last-requires : goal.last-requires
last-requires c =
    let a = c.args in
    let three = puts_both (puts_both c.named.ensures c.named-2.ensures refl) c.named-3.ensures refl in
    room_left 128 34 c.requires three (simp length-append (omega (arith, length_decimal a.k, length_decimal a.s.value, length_decimal c.from.result)))

pub returns : goal.returns
returns c =
    let three = puts_both (puts_both c.named.ensures c.named-2.ensures refl) (rw c.from.ensures at c.named-3.ensures) refl in
    puts_both three (rw c.from-2.ensures at c.last.ensures) refl
