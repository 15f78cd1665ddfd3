-- Demand 3, as one statement about a build: whatever list of steps it is given, from an empty table
-- on.
use Rattle.std.specs.Prelude.{ℕ, ◌+◌, ◌≡◌, Bool, true, false, List, ◌≢◌, Option, Some, None, slice_get}
use Rattle.rules.specs.declared.held.Slot.{Slot}
use Rattle.handshake.specs.History.{Transfer, transfer, arrival, Belong, Pairing, departed, arrived}
use Rattle.ground.specs.Answers.{not_sound, value_limit}
use Rattle.station.specs.Held.{slot_for, token_for}
use Rattle.rules.specs.Rules.{agree}
use Rattle.rules.specs.declared.held.Token.{Token}
use Rattle.table.specs.Sound.{table_sound}
use Rattle.table.specs.Table.{station_at}
use Rattle.table.specs.Way.{at_stations, on_the_way}
use Rattle.steps.specs.declared.asked.Step.{Step}
use Rattle.table.specs.declared.table.Table.{Table}
use Rattle.runs.specs.Runs.{Build, Line, log_of, table_after, all_added, all_drawn, history_of, amounting}

-- every token weighs what it carries
abbrev pub amount : ℕ → ℕ
amount q = q

-- what holds of a table and of the log of the steps that led to it
pub record Accounted (t : Table) (log : List Line) : Type 0 where
  -- 1. The passes at all stations plus the passes on the way equal all passes added less all passes
  -- drawn. (Written with a sum: what was drawn stands on the left, so that nothing is cut off at
  -- 0.)
  pub passes : at_stations t + on_the_way t + all_drawn log ≡ all_added log
  -- 2. Each arrival belongs to exactly one earlier departure between the same two stations, with
  -- both clocks equal and of the same amount; no departure has two arrivals.
  pub pairing : Pairing (history_of log)
  -- 3. The passes on the way equal all departures less all arrivals.
  pub way : on_the_way t + arrived amount (history_of log) ≡ departed amount (history_of log)
  -- 4. The table is sound; no step answered 1 or 10.
  pub sound : table_sound t ≡ true
  pub answers : (i : ℕ) (x : Line) → slice_get log i ≡ Some x → (x.answer ≢ not_sound) × (x.answer ≢ value_limit)

-- a slot waits for a token if both clocks are the same
abbrev pub waits_for : Option Slot → Token → Bool
waits_for None k = false
waits_for (Some l) k = agree k l

pub record Demand3 (build : Build) (empty : Table) : Type 0 where
  -- after any list of steps, and so after every step of one
  pub accounted : (steps : List Step) → Accounted (table_after build empty steps) (log_of build empty steps)
  -- 5. A token k that station i has stored for station j, and that is not on the way, counts for
  -- nothing: whatever is done later, it never lands.
  pub stale : (steps later : List Step) (i j : ℕ) (k : Token)
      → token_for (station_at (table_after build empty steps) i) j ≡ Some k
      → waits_for (slot_for (station_at (table_after build empty steps) j) i) k ≡ false
      → (n : ℕ) (x : Transfer ℕ) → slice_get (history_of (log_of build (table_after build empty steps) later)) n ≡ Some (arrival x)
      → Belong x (transfer i j (amounting k.source.0 k.destination.0 k.quantity)) → ⊥
