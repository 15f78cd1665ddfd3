-- Demand 3 clause by clause: what each says of one run of a build, so that a run can keep all but
-- one of them.
use Rattle.std.specs.Prelude.{ℕ, ◌+◌, ◌<◌, ◌≡◌, true, false, List, ◌++◌, ◌≢◌, Some, slice_get}
use Rattle.handshake.specs.History.{Transfer, Entry, transfer, departure, arrival, Belong, departed, arrived}
use Rattle.ground.specs.Answers.{not_sound, value_limit}
use Rattle.station.specs.Held.{slot_for, token_for}
use Rattle.rules.specs.declared.held.Token.{Token}
use Rattle.table.specs.Sound.{table_sound}
use Rattle.table.specs.Table.{station_at}
use Rattle.table.specs.Way.{at_stations, on_the_way}
use Rattle.steps.specs.declared.asked.Step.{Step}
use Rattle.table.specs.declared.table.Table.{Table}
use Rattle.runs.specs.Runs.{Build, Line, log_of, table_after, all_added, all_drawn, history_of, amounting}
use Rattle.runs.specs.Demand3.{amount, waits_for}

pub data Clause : Type 0 where
  passes : Clause
  departed_before : Clause
  one_departure : Clause
  one_arrival : Clause
  way : Clause
  sound : Clause
  answers : Clause
  stale : Clause

-- the clauses of the pairing, of a history
abbrev pub DepartedBefore : List (Entry ℕ) → Type 0
DepartedBefore H = (i : ℕ) (x : Transfer ℕ) → slice_get H i ≡ Some (arrival x) → (k : ℕ) × (k < i) × (slice_get H k ≡ Some (departure x))

-- two entries of one kind that belong together are the same one
abbrev pub OnlyOne : (Transfer ℕ → Entry ℕ) → List (Entry ℕ) → Type 0
OnlyOne kind H = (i k : ℕ) (x y : Transfer ℕ) → slice_get H i ≡ Some (kind x) → slice_get H k ≡ Some (kind y) → Belong x y → i ≡ k

-- none of the steps was answered 1 or 10
abbrev pub Answered : List Line → Type 0
Answered log = (i : ℕ) (x : Line) → slice_get log i ≡ Some x → (x.answer ≢ not_sound) × (x.answer ≢ value_limit)

-- a token that is stored in a table and is not on the way does not land by the later steps
abbrev pub NeverLands : Table → List (Entry ℕ) → Type 0
NeverLands t later =
    (i j : ℕ) (k : Token) → token_for (station_at t i) j ≡ Some k → waits_for (slot_for (station_at t j) i) k ≡ false
    → (n : ℕ) (x : Transfer ℕ) → slice_get later n ≡ Some (arrival x) → Belong x (transfer i j (amounting k.source.0 k.destination.0 k.quantity)) → ⊥

-- what a clause says of these steps, from a table on
abbrev pub says : Clause → Build → Table → List Step → Type 0
says passes build t steps = let log = log_of build t steps in let u = table_after build t steps in at_stations u + on_the_way u + all_drawn log ≡ all_added log
says departed_before build t steps = DepartedBefore (history_of (log_of build t steps))
says one_departure build t steps = OnlyOne departure (history_of (log_of build t steps))
says one_arrival build t steps = OnlyOne arrival (history_of (log_of build t steps))
says way build t steps =
    let H = history_of (log_of build t steps) in on_the_way (table_after build t steps) + arrived amount H ≡ departed amount H
says sound build t steps = table_sound (table_after build t steps) ≡ true
says answers build t steps = Answered (log_of build t steps)
-- wherever the steps are cut in two
says stale build t steps =
    (before later : List Step) → before ++ later ≡ steps → let u = table_after build t before in NeverLands u (history_of (log_of build u later))

-- a run for which one clause is false, and each other one true
pub record FailsAlone (clause : Clause) (build : Build) (t : Table) (steps : List Step) : Type 0 where
  pub fails : says clause build t steps → ⊥
  pub others : (other : Clause) → other ≢ clause → says other build t steps
