-- The passes at the stations of a table, and the passes on the way.
use Rattle.std.specs.Prelude.{ℕ, cond, List, [], ◌∷◌, Option, Some, None}
use Rattle.rules.specs.declared.held.Token.{Token}
use Rattle.rules.specs.declared.held.Slot.{Slot}
use Rattle.ground.specs.Sums.{sum_below}
use Rattle.ground.specs.Refusals.{Refusal, answer_of}
use Rattle.ground.specs.declared.told.Told.{Told}
use Rattle.ground.specs.Told.{told_with}
use Rattle.station.specs.Held.{slot_for, token_for}
use Rattle.rules.specs.Rules.{agree}
use Rattle.table.specs.declared.table.Table.{Table}
use Rattle.table.specs.Table.{station_at}
use Rattle.table.specs.Sound.{unsound}

-- a token is on the way while its destination has a slot for its maker with both clocks the same
abbrev pub travels : Option Token → Option Slot → ℕ
travels (Some t) (Some l) = cond (agree t l) t.quantity 0
travels (Some t) None = 0
travels None h = 0

-- from station i to station j
abbrev pub between : Table → ℕ → ℕ → ℕ
between t i j = travels (token_for (station_at t i) j) (slot_for (station_at t j) i)

abbrev pub way_from : Table → ℕ → ℕ
way_from t i = sum_below (between t i) t.count

abbrev pub on_the_way : Table → ℕ
on_the_way t = sum_below (way_from t) t.count

abbrev pub at_stations : Table → ℕ
at_stations t = sum_below (λ k. (station_at t k).value) t.count

-- a sum can be asked of a table: 1 where it is not sound
abbrev pub sum_refusals : Table → List Refusal
sum_refusals t = unsound t ∷ []

abbrev pub way_asked : Table → Told
way_asked t = told_with (answer_of (sum_refusals t)) (on_the_way t)

abbrev pub stations_asked : Table → Told
stations_asked t = told_with (answer_of (sum_refusals t)) (at_stations t)
