-- Sums over the stations of a table, one station at a time, and their limits. Assumes nothing.
use Rattle.std.proofs.Common.{Option, Some, None}
use Prim.Native.Nat.{ℕ, ◌*◌, ◌^◌, ◌<◌, ◌≤◌}
use mathlib.Core.Path.{◌≡◌}
use mathlib.Core.Bool.{Bool, true, false, cond}
use native.Mathlib.Omega.{arith}
use Rattle.rules.specs.declared.held.Token.{Token}
use Rattle.rules.specs.declared.held.Slot.{Slot}
use Rattle.ground.specs.Limits.{most_stations, most_value}
use Rattle.ground.specs.Sums.{sum_below}
use Rattle.ground.proofs.Sums.{sum_most}
use Rattle.station.specs.Held.{token_for}
use Rattle.rules.specs.Rules.{agree}
use Rattle.rules.specs.Taking.{TokenInRange}
use Rattle.station.proofs.Parts.{SoundStation, station_parts, token_fits_lem}
use Rattle.table.specs.declared.table.Table.{Table}
use Rattle.table.specs.Table.{station_at}
use Rattle.table.specs.Sound.{table_sound}
use Rattle.table.specs.Way.{travels, between, way_from, on_the_way, at_stations}
use Rattle.table.proofs.Tables.{table_parts, seated}

pub station_sound_lem : (t : Table) → table_sound t ≡ true → (k : ℕ) → k < t.count → SoundStation (station_at t k)
station_sound_lem t e k h =
    let w = table_parts t e in
    let m = w.most in
    station_parts (station_at t k) (seated (station_at t k) k t.count h (w.seats k (omega arith))).sound

all_or_none : (b : Bool) (q : ℕ) → q ≤ most_value → cond b q 0 ≤ most_value
all_or_none true q h = h
all_or_none false q h = omega arith

travels_small : (g : Option Token) (h : Option Slot) → TokenInRange g → travels g h ≤ most_value
travels_small None h f = omega arith
travels_small (Some t) None f = omega arith
travels_small (Some t) (Some l) f = all_or_none (agree t l) t.quantity f

-- what is on the way between two stations of a sound table is a quantity in range
pub between_small : (t : Table) → table_sound t ≡ true → (i j : ℕ) → i < t.count → j < t.count → between t i j ≤ most_value
between_small t e i j hi hj =
    let s = station_sound_lem t e i hi in
    let m = (table_parts t e).most in
    travels_small (token_for (station_at t i) j) _ (token_fits_lem (token_for (station_at t i) j) (station_at t i).source (s.tokens j (omega arith)))

-- and so the sums of it are within their limits
pub way_small : (t : Table) → table_sound t ≡ true → (i n : ℕ) → i < t.count → n ≤ t.count → sum_below (between t i) n ≤ most_stations * most_value
way_small t e i n hi hn =
    let m = (table_parts t e).most in
    omega (arith, sum_most (between t i) n most_value (λ j l. between_small t e i j hi (omega arith)))

pub ways_fit : (t : Table) → table_sound t ≡ true → on_the_way t < 2 ^ 64
ways_fit t e =
    let m = (table_parts t e).most in
    let all = sum_most (way_from t) t.count (most_stations * most_value) (λ i l. way_small t e i t.count l (omega arith)) in
    omega (arith, all)

pub values_fit : (t : Table) → table_sound t ≡ true → at_stations t < 2 ^ 64
values_fit t e =
    let m = (table_parts t e).most in
    omega (arith, sum_most (λ k. (station_at t k).value) t.count most_value (λ k l. (station_sound_lem t e k l).value))
