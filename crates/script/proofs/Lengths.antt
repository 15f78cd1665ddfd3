-- No printed line is longer than the room that is asked for it. Assumes nothing.
use Prim.Native.Nat.{ℕ, ◌≤◌}
use native.Mathlib.Omega.{arith}
use lib.ListN.{length, length-append}
use Rattle.script.specs.Decimal.{step_line, station_line, way_line, total_line}
use Rattle.script.proofs.Decimals.{length_decimal}

pub length_says : (number answer result : ℕ) → length (step_line number answer result) ≤ 63
length_says number answer result = simp length-append (omega (arith, length_decimal number, length_decimal answer, length_decimal result))

pub length_station : (k value source destination : ℕ) → length (station_line k value source destination) ≤ 117
length_station k value source destination =
    simp length-append (omega (arith, length_decimal k, length_decimal value, length_decimal source, length_decimal destination))

pub length_way : (sum : ℕ) → length (way_line sum) ≤ 32
length_way sum = simp length-append (omega (arith, length_decimal sum))

pub length_total : (total : ℕ) → length (total_line total) ≤ 27
length_total total = simp length-append (omega (arith, length_decimal total))
