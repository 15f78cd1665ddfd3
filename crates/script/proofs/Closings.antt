-- The closing lines: one station at a time, their lengths, and the sums that they tell. Assumes
-- nothing.
use Prim.Native.Nat.{ℕ, zero, suc, ◌+◌, ◌*◌, ◌≤◌, ◌<◌}
use mathlib.Core.Path.{◌≡◌, refl, ap}
use mathlib.Core.Bool.{true}
use mathlib.Core.List.{[], ◌++◌}
use native.Mathlib.Numerals.{add-one}
use native.Mathlib.Omega.{arith}
use lib.ListN.{length, length-append}
use Rattle.ground.specs.Limits.{most_stations, most_value}
use Rattle.table.specs.declared.table.Table.{Table}
use Rattle.ground.specs.declared.told.Told.{Told}
use Rattle.table.specs.Table.{station_at}
use Rattle.table.specs.Sound.{table_sound}
use Rattle.ground.specs.Sums.{sum_below}
use Rattle.ground.specs.Refusals.{answer_of}
use Rattle.ground.specs.Told.{told_with}
use Rattle.table.specs.Way.{sum_refusals, at_stations, between, on_the_way, way_from}
use Rattle.table.proofs.Tables.{table_parts}
use Rattle.table.proofs.Sums.{between_small, station_sound_lem}
use Rattle.script.specs.Script.{station_lines}
use Rattle.script.specs.Closing.{seat_line}
use Rattle.script.proofs.Lengths.{length_station}

pub no_stations : (t : Table) → station_lines t 0 ≡ []
unfolding station_lines
no_stations t = refl

pub more_stations : (t : Table) (k : ℕ) → station_lines t (k + 1) ≡ station_lines t k ++ seat_line k (station_at t k)
unfolding station_lines
more_stations t k = rw (add-one k)

pub length_stations : (t : Table) (k : ℕ) → length (station_lines t k) ≤ 117 * k
unfolding station_lines
length_stations t zero = omega arith
length_stations t (suc k) =
    let s = station_at t k in
    rw length-append (omega (arith, length_stations t k, length_station k s.value s.source.0 s.destination.0))

-- a sum of so many numbers that are each in range
sum_small : (f : ℕ → ℕ) (most n : ℕ) → ((k : ℕ) → k < n → f k ≤ most) → sum_below f n ≤ n * most
unfolding sum_below
sum_small f most zero h = omega arith
sum_small f most (suc n) h = omega (arith, sum_small f most n (λ k l. h k (omega arith)), h n (omega arith))

module _ (t : Table) (e : table_sound t ≡ true) where
  pub at_stations_small : at_stations t ≤ most_stations * most_value
  at_stations_small =
      let m = (table_parts t e).most in
      omega (arith, sum_small (λ k. (station_at t k).value) most_value t.count (λ k h. (station_sound_lem t e k h).value))

  way_from_small : (i : ℕ) → i < t.count → way_from t i ≤ most_stations * most_value
  way_from_small i l =
      let m = (table_parts t e).most in
      omega (arith, sum_small (between t i) most_value t.count (λ j h. between_small t e i j l h))

  pub on_the_way_small : on_the_way t ≤ most_stations * (most_stations * most_value)
  on_the_way_small =
      let m = (table_parts t e).most in
      omega (arith, sum_small (way_from t) (most_stations * most_value) t.count way_from_small)

-- a sum that was asked for is told where the table is sound
pub sum_told : (t : Table) (sum : ℕ) {r : Told} → r ≡ told_with (answer_of (sum_refusals t)) sum → table_sound t ≡ true → r.result ≡ sum
sum_told t sum e f = ap (λ (s : Told). s.result) (rw f at e)
