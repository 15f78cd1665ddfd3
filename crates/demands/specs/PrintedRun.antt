-- What a script prints, told as a run: its lines as steps, the log of those steps, and the passes
-- that the log adds and draws against the printed total.
-- `output_of` is what the bench program prints; the log, and what is counted from it, are those of
-- demand 3.
use Rattle.std.specs.Prelude.{ℕ, zero, suc, ◌+◌, ◌≤◌, ◌≡◌, List, [], ◌∷◌, ◌++◌, length, Option, Some, None}
use Rattle.ground.specs.Answers.{done, bad_line}
use Rattle.steps.specs.declared.asked.Step.{Step}
use Rattle.table.specs.declared.table.Table.{Table}
use Rattle.table.specs.Fresh.{fresh_table_of}
use Rattle.steps.specs.Steps.{step_of}
use Rattle.table.specs.Way.{on_the_way, at_stations}
use Rattle.script.specs.Words.{up_to, past}
use Rattle.script.specs.Lines.{line_of, stations_of}
use Rattle.script.specs.Decimal.{step_line}
use Rattle.script.specs.Script.{most_bytes, closing, output_of}
use Rattle.runs.specs.Runs.{Line, log_of, table_after, all_added, all_drawn}

-- the lines in these bytes, at most so many: lines end in byte 10, and a last line with at least
-- one byte needs none
unfoldable pub lines_in : ℕ → List ℕ → List (Option Step)
lines_in zero rest = []
lines_in (suc most) [] = []
lines_in (suc most) (b ∷ bs) = let rest = b ∷ bs in line_of (up_to 10 rest) ∷ lines_in most (past 10 rest)

-- the steps among lines: a line that cannot be read is none
unfoldable pub steps_among : List (Option Step) → List Step
steps_among [] = []
steps_among (None ∷ lines) = steps_among lines
steps_among (Some step ∷ lines) = step ∷ steps_among lines

-- what is printed of lines, numbered from n: of one that cannot be read 12 and 0; of a step the
-- answer and the result in the log's next line
unfoldable pub lines_of_log : ℕ → List (Option Step) → List Line → List ℕ
lines_of_log n [] log = []
lines_of_log n (None ∷ lines) log = step_line n bad_line 0 ++ lines_of_log (n + 1) lines log
lines_of_log n (Some step ∷ lines) (x ∷ log) = step_line n x.answer x.result ++ lines_of_log (n + 1) lines log
-- not met with: a log has a line for each step
lines_of_log n (Some step ∷ lines) [] = []

-- a script starts if it is not too long and its first line is `stations` with a count that a table
-- can have
pub record Starts (script : List ℕ) (count : ℕ) : Type 0 where
  pub size : length script ≤ most_bytes
  pub first : stations_of (up_to 10 script) ≡ Some count
  pub made : (fresh_table_of count).answer ≡ done

-- the lines past the first; there are no more of them than bytes
abbrev pub lines_of : List ℕ → List (Option Step)
lines_of script = let rest = past 10 script in lines_in (length rest) rest

-- the log of the script's steps from a fresh table on, and the table that they leave
abbrev pub script_log : List ℕ → ℕ → List Line
script_log script count = log_of step_of (fresh_table_of count).table (steps_among (lines_of script))

abbrev pub last_table : List ℕ → ℕ → Table
last_table script count = table_after step_of (fresh_table_of count).table (steps_among (lines_of script))

pub record PrintedRun (script : List ℕ) (count : ℕ) : Type 0 where
  -- All that is printed is the log, line by line, and the closing of the table that the steps
  -- leave.
  pub prints : output_of script ≡ lines_of_log 1 (lines_of script) (script_log script count) ++ closing (last_table script count)
  -- The closing's last line is `total` and the number `at_stations + on_the_way` of that table. It
  -- equals the amounts of the adds answered 0 less the printed results of the draws. (Written with
  -- a sum, so that nothing is cut off at 0.)
  pub total : let t = last_table script count in let log = script_log script count in at_stations t + on_the_way t + all_drawn log ≡ all_added log
