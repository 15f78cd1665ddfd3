-- What a script that starts prints is the log of its steps and the closing of the table that they
-- leave, and by demand 3 the printed total is what the log adds less what it draws. Assumes
-- nothing.
use Rattle.std.proofs.Common.{Option, Some, None}
use Prim.Native.Nat.{ℕ, zero, suc, ◌+◌}
use mathlib.Core.Path.{◌≡◌, refl, ap, sym, ◌∙◌}
use mathlib.Core.List.{List, [], ◌∷◌, ◌++◌, append_assoc}
use Rattle.steps.specs.declared.asked.Step.{Step}
use borrow.Author.Tests.{le-ltb}
use lib.ListN.{length}
use Rattle.ground.specs.Answers.{bad_line}
use Rattle.table.specs.declared.table.Table.{Table}
use Rattle.table.specs.Fresh.{fresh_table_of}
use Rattle.steps.specs.Running.{asked_step}
use Rattle.steps.specs.Steps.{step_of}
use Rattle.script.specs.Words.{up_to, past}
use Rattle.script.specs.Lines.{line_of}
use Rattle.script.specs.Decimal.{step_line}
use Rattle.script.specs.Script.{most_bytes, closing, run_from, output_of}
use Rattle.runs.specs.Runs.{log_of, table_after}
use Rattle.runs.proofs.Demand3.{demand3}
use Rattle.demands.specs.PrintedRun.{lines_in, steps_among, lines_of_log, lines_of, Starts, PrintedRun}

-- what is said of lines from a table on, and its closing
abbrev told : ℕ → Table → List (Option Step) → List ℕ
told n t lines = lines_of_log n lines (log_of step_of t (steps_among lines)) ++ closing (table_after step_of t (steps_among lines))

-- a line is said first, and then the others, from the table that it leaves
line_told : (line : Option Step) (n : ℕ) (t : Table) (lines : List (Option Step))
    → let s = asked_step t line in step_line n s.answer s.result ++ told (n + 1) s.table lines ≡ told n t (line ∷ lines)
unfolding steps_among lines_of_log log_of table_after
line_told None n t lines = sym (append_assoc (step_line n bad_line 0) _ _)
line_told (Some step) n t lines = let s = step_of t step in sym (append_assoc (step_line n s.answer s.result) _ _)

run_told : (most : ℕ) (n : ℕ) (t : Table) (rest : List ℕ) → run_from most t n rest ≡ told n t (lines_in most rest)
unfolding run_from lines_in steps_among lines_of_log table_after
run_told zero n t rest = refl
run_told (suc most) n t [] = refl
run_told (suc most) n t (b ∷ bs) =
    let rest = b ∷ bs in
    let line = line_of (up_to 10 rest) in
    let s = asked_step t line in
    ap (λ (more : List ℕ). step_line n s.answer s.result ++ more) (run_told most (n + 1) s.table (past 10 rest))
    ∙ line_told line n t (lines_in most (past 10 rest))

output_told : (script : List ℕ) (count : ℕ) → Starts script count → output_of script ≡ told 1 (fresh_table_of count).table (lines_of script)
unfolding output_of
output_told script count starts =
    let rest = past 10 script in
    rw (le-ltb most_bytes (length script) starts.size, starts.first, starts.made) (run_told (length rest) 1 (fresh_table_of count).table rest)

pub printed_run : (script : List ℕ) (count : ℕ) → Starts script count → PrintedRun script count
printed_run script count starts =
    record { prints = output_told script count starts; total = ((demand3 count starts.made).accounted _).passes }
