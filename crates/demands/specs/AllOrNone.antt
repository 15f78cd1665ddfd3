-- A draw is all or none: where it answers 0 it took the amount and told it, and else it took and
-- told nothing. No kit is half paid.
use Rattle.std.specs.Prelude.{ℕ, ◌+◌, ◌≡◌, ◌⊎◌, ◌≢◌, length}
use Rattle.ground.specs.Answers.{done}
use Rattle.ground.specs.Limits.{most_stations}
use Rattle.rules.specs.Stock.{drawn_from}
use Rattle.station.specs.declared.station.Station.{Station}
use Rattle.station.specs.Steps.{draw_of}
use Rattle.table.specs.declared.table.Table.{Table}
use Rattle.table.specs.Table.{station_at}
use Rattle.steps.specs.declared.asked.Step.TheVariants.{Draw}
use Rattle.steps.specs.Steps.{step_of}

-- of the value before and after it
abbrev pub AllOrNone : ℕ → ℕ → ℕ → ℕ → ℕ → Type 0
AllOrNone amount answer result before after =
    ((answer ≡ done) × (result ≡ amount) × (after + amount ≡ before)) ⊎ ((answer ≢ done) × (result ≡ 0) × (after ≡ before))

pub record EveryDraw : Type 0 where
  pub stock : (value intake amount : ℕ) → let r = drawn_from value intake amount in AllOrNone amount r.answer r.result value r.value
  pub station : (s : Station) (amount : ℕ) → let r = draw_of s amount in AllOrNone amount r.answer r.result s.value r.station.value
  -- a table has all its stations: its type says so in the code, a list does not
  pub step : (t : Table) (k amount : ℕ) → length t.stations ≡ most_stations
      → let r = step_of t (Draw k amount) in AllOrNone amount r.answer r.result (station_at t k).value (station_at r.table k).value
