-- Document 01's worked script and all its output.
use Rattle.std.specs.Prelude.{ℕ, suc, ◌+◌, List, [], ◌∷◌}
use Rattle.handshake.specs.History.{Transfer, Entry, departure, arrival, transfer}
use Rattle.table.specs.Table.{station_at}
use Rattle.table.specs.Way.{at_stations, on_the_way}
use Rattle.steps.specs.declared.asked.Step.{Step}
use Rattle.steps.specs.declared.asked.Step.TheVariants.{Add, Draw, Send, Deliver, Lose}
use Rattle.table.specs.declared.table.Table.{Table}
use Rattle.runs.specs.Runs.{Line, amounting}

-- the steps after `stations 2`
abbrev pub worked : List Step
worked =
    Add 0 10 ∷ Send 0 1 ∷ Deliver 0 ∷ Send 1 0 ∷ Deliver 1 ∷ Draw 0 7 ∷ Send 0 1 ∷ Deliver 2 ∷ Deliver 2 ∷ Lose 2 ∷ Send 0 0 ∷ []

-- all that is printed of a run of two stations
pub record Output : Type 0 where
  pub steps : List (List ℕ)
  pub stations : List (List ℕ)
  pub on_the_way : ℕ
  pub total : ℕ

-- each step prints its number from 1, its answer, its result
unfoldable pub step_rows : ℕ → List Line → List (List ℕ)
step_rows number [] = []
step_rows number (x ∷ log) = (number ∷ x.answer ∷ x.result ∷ []) ∷ step_rows (suc number) log

-- each station its number, its value, its source clock and its destination clock
abbrev pub station_row : Table → ℕ → List ℕ
station_row t k = let s = station_at t k in k ∷ s.value ∷ s.source.0 ∷ s.destination.0 ∷ []

-- then the sum on the way, then values plus that sum
abbrev pub run_output : Table → List Line → Output
run_output t log =
    record {
      steps = step_rows 1 log;
      stations = station_row t 0 ∷ station_row t 1 ∷ [];
      on_the_way = on_the_way t;
      total = at_stations t + on_the_way t;
    }

-- the output as document 01 has it, with step 6, station 0 and the total as request 2026-07 has
-- them
abbrev pub worked_output : Output
worked_output =
    record {
      steps =
          (1 ∷ 0 ∷ 10 ∷ [])
          ∷ (2 ∷ 0 ∷ 0 ∷ [])
          ∷ (3 ∷ 0 ∷ 0 ∷ [])
          ∷ (4 ∷ 0 ∷ 1 ∷ [])
          ∷ (5 ∷ 0 ∷ 0 ∷ [])
          ∷ (6 ∷ 15 ∷ 0 ∷ [])
          ∷ (7 ∷ 0 ∷ 2 ∷ [])
          ∷ (8 ∷ 0 ∷ 5 ∷ [])
          ∷ (9 ∷ 0 ∷ 0 ∷ [])
          ∷ (10 ∷ 0 ∷ 0 ∷ [])
          ∷ (11 ∷ 3 ∷ 0 ∷ [])
          ∷ [];
      stations =
          -- station 0 value 5 source 1 destination 0
          (0 ∷ 5 ∷ 1 ∷ 0 ∷ [])
          -- station 1 value 5 source 0 destination 1
          ∷ (1 ∷ 5 ∷ 0 ∷ 1 ∷ [])
          ∷ [];
      on_the_way = 0;
      total = 10;
    }

-- 5 passes from station 0 to station 1, both clocks 0
abbrev pub five : Transfer ℕ
five = transfer 0 1 (amounting 0 0 5)

-- they depart once and arrive once
abbrev pub worked_history : List (Entry ℕ)
worked_history = departure five ∷ arrival five ∷ []
