-- What the stations of a table hold for each other, in one row.
use Rattle.std.specs.Prelude.{ℕ, zero, suc, ◌+◌, ◌*◌, ◌/◌, ◌%◌, List, [], ◌∷◌, Option}
use Rattle.rules.specs.declared.held.Slot.{Slot}
use Rattle.rules.specs.declared.held.Token.{Token}
use Rattle.ground.specs.Limits.{most_stations}
use Rattle.station.specs.declared.station.Station.{Station}
use Rattle.station.specs.Held.{slot_for, token_for}
use Rattle.table.specs.Table.{station_in}

-- what one station holds for one peer
pub record Cells : Type 0 where
  pub slot : Option Slot
  pub token : Option Token

-- what station s holds for station j
abbrev pub cells_for : Station → ℕ → Cells
cells_for s j = record { slot = slot_for s j; token = token_for s j }

-- what a function gives for each of n numbers from i on
unfoldable pub each_from : {A : Type 0} → (ℕ → A) → ℕ → ℕ → List A
each_from f zero i = []
each_from f (suc n) i = f i ∷ each_from f n (i + 1)

-- station 0 for each number up to 15, then station 1, and so on
abbrev pub cell_at : List Station → ℕ → Cells
cell_at stations n = cells_for (station_in stations (n / most_stations)) (n % most_stations)

abbrev pub cells_of : List Station → List Cells
cells_of stations = each_from (cell_at stations) (most_stations * most_stations) 0
