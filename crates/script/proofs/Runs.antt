-- A script taken by positions prints what it prints as a whole. Assumes nothing.
use Prim.Native.Nat.{ℕ, zero, suc, ◌+◌, ◌≤◌, ◌<◌}
use mathlib.Core.Path.{◌≡◌, refl, sym, ap, ◌∙◌}
use mathlib.Core.Bool.{Bool, true, false, cond}
use mathlib.Core.List.{List, [], ◌∷◌, ◌++◌, append_assoc}
use mathlib.Core.Logic.{⊎_elim}
use native.Mathlib.Nat.{add_assoc, add-zero}
use native.Mathlib.Omega.{arith}
use borrow.Author.Tests.{ltb-false}
use lib.Dec.{ltb}
use lib.ListN.{length, drop, length-drop, drop_of_length-le}
use lib.Seq.{drop-drop, drop-length}
use Rattle.table.specs.declared.table.Table.{Table}
use Rattle.steps.specs.Running.{asked_step, left_by}
use Rattle.script.specs.Words.{index_of, past, up_to}
use Rattle.script.specs.Lines.{line_of}
use Rattle.script.specs.Decimal.{step_line}
use Rattle.script.specs.Script.{closing, run_from}
use Rattle.script.specs.Reading.{line_at, lines_from, past_line, past_lines}
use Rattle.script.specs.Telling.{lines_of_steps}
use Rattle.ground.proofs.Tests.{below_or_not}
use Rattle.script.proofs.Readings.{lines_more, lines_none, lines_zero, past_more, past_none, past_zero}

-- the position past a line leaves what stands past the line
past_by : (script : List ℕ) (at i : ℕ) (inside : Bool) → ltb i (length (drop at script)) ≡ inside → drop (cond inside (at + i + 1) (length script)) script ≡ drop (i + 1) (drop at script)
past_by script at i true e = rw (drop-drop (i + 1) at script, add_assoc at i 1)
past_by script at i false e =
    let h : length (drop at script) ≤ i = ltb-false i (length (drop at script)) e in
    drop-length script ∙ sym (drop_of_length-le (drop at script) {i = i + 1} (omega arith))

pub past_left : (script : List ℕ) (at : ℕ) → drop (past_line script at) script ≡ past 10 (drop at script)
past_left script at = past_by script at (index_of 10 (drop at script)) (ltb (index_of 10 (drop at script)) (length (drop at script))) refl

-- a run is over after as many lines as the script has bytes
pub lines_enough : (few many : ℕ) (t : Table) (n : ℕ) (rest : List ℕ) → length rest ≤ few → length rest ≤ many → run_from few t n rest ≡ run_from many t n rest
unfolding run_from
lines_enough zero zero t n rest h l = refl
lines_enough zero (suc many) t n [] h l = refl
lines_enough zero (suc many) t n (b ∷ bs) h l = absurd (omega arith)
lines_enough (suc few) zero t n [] h l = refl
lines_enough (suc few) zero t n (b ∷ bs) h l = absurd (omega arith)
lines_enough (suc few) (suc many) t n [] h l = refl
lines_enough (suc few) (suc many) t n (b ∷ bs) h l =
    let rest = b ∷ bs in
    let s = asked_step t (line_of (up_to 10 rest)) in
    let shorter : length (past 10 rest) ≤ length bs = rw length-drop (omega arith) in
    ap (λ (more : List ℕ). step_line n s.answer s.result ++ more) (lines_enough few many s.table (n + 1) (past 10 rest) (omega arith) (omega arith))

run_on : (t : Table) (n : ℕ) (rest : List ℕ) → 0 < length rest → let s = asked_step t (line_of (up_to 10 rest)) in run_from (length rest) t n rest ≡ step_line n s.answer s.result ++ run_from (length (past 10 rest)) s.table (n + 1) (past 10 rest)
unfolding run_from
run_on t n [] h = absurd (omega arith)
run_on t n (b ∷ bs) h =
    let rest = b ∷ bs in
    let s = asked_step t (line_of (up_to 10 rest)) in
    ap (λ (more : List ℕ). step_line n s.answer s.result ++ more) (lines_enough (length bs) (length (past 10 rest)) s.table (n + 1) (past 10 rest) (rw length-drop (omega arith)) (omega arith))

-- what is printed from step number n on, for the script from a position on
unfoldable pub owed_from : List ℕ → Table → ℕ → ℕ → List ℕ
owed_from script t n at = let rest = drop at script in run_from (length rest) t n rest

-- the line at a position is printed first, and then what is owed past it
owed_on : (script : List ℕ) (t : Table) (n at : ℕ) → at < length script → let s = asked_step t (line_of (line_at script at)) in owed_from script t n at ≡ step_line n s.answer s.result ++ owed_from script s.table (n + 1) (past_line script at)
unfolding owed_from
owed_on script t n at h = rw (past_left script at) (run_on t n (drop at script) (rw length-drop (omega arith)))

pub owed_ended : (script : List ℕ) (t : Table) (n at : ℕ) → length script ≤ at → owed_from script t n at ≡ closing t
unfolding owed_from run_from
owed_ended script t n at h = rw (drop_of_length-le script h)

-- several lines are printed first, and then what is owed past them
pub owed_lines : (most : ℕ) (script : List ℕ) (t : Table) (n at : ℕ) → let xs = lines_from most script at in owed_from script t n at ≡ lines_of_steps n t xs ++ owed_from script (left_by t xs) (n + length xs) (past_lines most script at)
unfolding lines_of_steps left_by
owed_lines zero script t n at = rw (lines_zero script at, past_zero script at, add-zero n)
owed_lines (suc most) script t n at =
    ⊎_elim
    (λ (h : at < length script).
    let x = line_of (line_at script at) in
    let s = asked_step t x in
    let xs = lines_from most script (past_line script at) in
    let count : n + 1 + length xs ≡ n + length (x ∷ xs) = omega arith in
    rw (lines_more script at most h, past_more script at most h, append_assoc (step_line n s.answer s.result) (lines_of_steps (n + 1) s.table xs), ← count)
    (owed_on script t n at h ∙ ap (λ (more : List ℕ). step_line n s.answer s.result ++ more) (owed_lines most script s.table (n + 1) (past_line script at))))
    (λ (h : length script ≤ at). rw (lines_none script at (suc most) h, past_none script at (suc most) h, add-zero n))
    (below_or_not at (length script))
