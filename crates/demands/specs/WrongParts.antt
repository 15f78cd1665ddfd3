-- Wrong outcomes of the test of a table, and of a run of steps in one call.
use Rattle.std.specs.Prelude.{ℕ, List, [], ◌∷◌, ◌++◌, Some, None}
use Rattle.steps.specs.declared.asked.Step.TheVariants.{Deliver}
use Rattle.table.specs.declared.table.Table.{Table}
use Rattle.table.specs.Table.{station_at}
use Rattle.table.specs.Fresh.{fresh_table_of}
use Rattle.steps.specs.Running.{numbers_for, asked_by, ran_of, told_in_run}
use Rattle.table.specs.Sound.{table_sound}
use Rattle.measure.specs.Steps.{last_result_of}
use Rattle.demands.specs.Samples.{truth, sevens}
use Rattle.demands.specs.Wrong.{Wrong}
use Rattle.demands.specs.WrongTables.{ten_sent}

-- a table that is not sound: it has no stations
abbrev unsound_table : Table
unsound_table = (fresh_table_of 1).table

-- an add of 5 at station 0, then one of 6
abbrev two_adds : List ℕ
two_adds = 0 ∷ 0 ∷ 5 ∷ 0 ∷ 0 ∷ 6 ∷ []

-- answer, result, station 0's value, and what is then in what was lent to be told into
abbrev ran : Table → List ℕ → List ℕ → List ℕ
ran t codes told = let r = ran_of t codes told in (r.answer ∷ r.result ∷ (station_at r.table 0).value ∷ []) ++ told_in_run t codes told

-- the same from a fresh table on: how many steps, and what they told
abbrev ran_fresh : List ℕ → List ℕ → List ℕ
ran_fresh codes told = let t = (fresh_table_of 2).table in (ran_of t codes told).result ∷ told_in_run t codes told

abbrev pub wrong_parts : List Wrong
wrong_parts =
    -- table_is_sound: takes a table without stations; refuses a fresh one
    record { promised = truth (table_sound unsound_table); wrong = 1 ∷ [] }
    ∷ record { promised = truth (table_sound (fresh_table_of 2).table); wrong = 0 ∷ [] }
    -- run: does a step that there is no room to tell; does a step of which a number is missing
    ∷ record { promised = ran ten_sent two_adds (sevens 9); wrong = (0 ∷ 2 ∷ 21 ∷ 0 ∷ 15 ∷ 0 ∷ 0 ∷ 0 ∷ []) ++ sevens 4 }
    ∷ record { promised = ran ten_sent (0 ∷ 0 ∷ 5 ∷ 3 ∷ 0 ∷ []) (sevens 10); wrong = 0 ∷ 2 ∷ 15 ∷ 0 ∷ 15 ∷ 0 ∷ 0 ∷ 0 ∷ 0 ∷ 0 ∷ 4 ∷ 5 ∷ 0 ∷ [] }
    -- run: of a table that is not sound it changes something; tells something; does nothing and
    -- answers 0
    ∷ record { promised = ran unsound_table two_adds (sevens 10); wrong = (1 ∷ 0 ∷ 5 ∷ []) ++ sevens 10 }
    ∷ record { promised = ran unsound_table two_adds (sevens 10); wrong = (1 ∷ 0 ∷ 0 ∷ 1 ∷ 0 ∷ 0 ∷ 0 ∷ 0 ∷ []) ++ sevens 5 }
    ∷ record { promised = ran unsound_table two_adds (sevens 10); wrong = (0 ∷ 0 ∷ 0 ∷ []) ++ sevens 10 }
    -- run: a number that names no step is done as an add; ends the run
    ∷ record { promised = ran ten_sent (5 ∷ 0 ∷ 5 ∷ []) (sevens 5); wrong = 0 ∷ 1 ∷ 15 ∷ 0 ∷ 15 ∷ 0 ∷ 0 ∷ 0 ∷ [] }
    ∷ record { promised = ran ten_sent (5 ∷ 0 ∷ 5 ∷ two_adds) (sevens 15); wrong = (0 ∷ 1 ∷ 10 ∷ 12 ∷ 0 ∷ 0 ∷ 0 ∷ 0 ∷ []) ++ sevens 10 }
    -- numbers_for: names a delivery as a loss; names what is no step as an add
    ∷ record { promised = numbers_for (Some (Deliver 3)); wrong = 4 ∷ 3 ∷ 0 ∷ [] }
    ∷ record { promised = numbers_for None; wrong = 0 ∷ 0 ∷ 0 ∷ [] }
    -- asked_by: reads a loss for a delivery; takes a number above 4 for a loss
    ∷ record { promised = numbers_for (asked_by 3 7 9); wrong = 4 ∷ 7 ∷ 0 ∷ [] }
    ∷ record { promised = numbers_for (asked_by 5 7 9); wrong = 4 ∷ 7 ∷ 0 ∷ [] }
    -- qm_run: tells the last result; tells nothing of the steps
    ∷ record { promised = ran_fresh two_adds (sevens 10); wrong = 11 ∷ 0 ∷ 5 ∷ 0 ∷ 0 ∷ 0 ∷ 0 ∷ 11 ∷ 0 ∷ 0 ∷ 0 ∷ [] }
    ∷ record { promised = ran_fresh two_adds (sevens 10); wrong = 2 ∷ sevens 10 }
    -- qm_last_result: the first result; no step done; passes over numbers that name no step
    ∷ record { promised = last_result_of 2 two_adds ∷ []; wrong = 5 ∷ [] }
    ∷ record { promised = last_result_of 2 (0 ∷ 0 ∷ 5 ∷ []) ∷ []; wrong = 0 ∷ [] }
    ∷ record { promised = last_result_of 2 (0 ∷ 0 ∷ 5 ∷ 5 ∷ 0 ∷ 0 ∷ []) ∷ []; wrong = 5 ∷ [] }
    ∷ []
