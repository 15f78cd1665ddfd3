-- What a script prints, from its first line to the total, for any bytes.
use Rattle.std.specs.Prelude.{ℕ, zero, suc, ◌+◌, cond, List, [], ◌∷◌, ◌++◌, ltb, length, Option, Some, None}
use Rattle.ground.specs.Answers.{bad_line, long_script}
use Rattle.ground.specs.Choice.{if_done}
use Rattle.table.specs.declared.table.Table.{Table}
use Rattle.table.specs.declared.stepped.Stepped.{Stepped}
use Rattle.table.specs.Table.{station_at}
use Rattle.table.specs.Fresh.{fresh_table_of}
use Rattle.steps.specs.Running.{asked_step}
use Rattle.table.specs.Way.{on_the_way, at_stations}
use Rattle.script.specs.Words.{up_to, past}
use Rattle.script.specs.Lines.{line_of, stations_of}
use Rattle.script.specs.Decimal.{step_line, station_line, way_line, total_line}

-- the longest script
abbrev pub most_bytes : ℕ
most_bytes = 65536

-- each station's value and clocks
unfoldable pub station_lines : Table → ℕ → List ℕ
station_lines t zero = []
station_lines t (suc k) = let s = station_at t k in station_lines t k ++ station_line k s.value s.source.0 s.destination.0

-- then the sum on the way, then values plus that sum
abbrev pub closing : Table → List ℕ
closing t = station_lines t t.count ++ way_line (on_the_way t) ++ total_line (at_stations t + on_the_way t)

-- the steps from number n on, for what is left of the script: lines end in byte 10, and a last line
-- with at least one byte needs none
unfoldable pub run_from : ℕ → Table → ℕ → List ℕ → List ℕ
run_from zero t n rest = closing t
run_from (suc lines) t n [] = closing t
run_from (suc lines) t n (b ∷ bs) =
    let rest = b ∷ bs in
    let s = asked_step t (line_of (up_to 10 rest)) in
    step_line n s.answer s.result ++ run_from lines s.table (n + 1) (past 10 rest)

-- a script that does not start prints one line
abbrev pub started : Stepped → List ℕ → List ℕ
started made rest = if_done made.answer (run_from (length rest) made.table 1 rest) (step_line 0 made.answer 0)

abbrev pub opened_by : Option ℕ → List ℕ → List ℕ
opened_by None rest = step_line 0 bad_line 0
opened_by (Some count) rest = started (fresh_table_of count) rest

unfoldable pub output_of : List ℕ → List ℕ
output_of script = cond (ltb most_bytes (length script)) (step_line 0 long_script 0) (opened_by (stations_of (up_to 10 script)) (past 10 script))
