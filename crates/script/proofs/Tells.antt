-- What steps told put as lines, one step after the other. Assumes nothing.
use Rattle.std.proofs.Common.{Option}
use Prim.Native.Nat.{ℕ, zero, suc, ◌+◌, ◌*◌, ◌≤◌}
use mathlib.Core.Path.{◌≡◌, refl, sym, ap, ◌∙◌}
use mathlib.Core.List.{List, [], ◌∷◌, ◌++◌, append_assoc, append-nil}
use native.Mathlib.Numerals.{add-one}
use native.Mathlib.Omega.{arith}
use Rattle.steps.specs.declared.asked.Step.{Step}
use lib.ListN.{length, get_or, drop, length-append}
use lib.Seq.{get_or-drop}
use Rattle.table.specs.declared.table.Table.{Table}
use Rattle.steps.specs.Running.{asked_step, all_told}
use Rattle.script.specs.Decimal.{step_line}
use Rattle.script.specs.Telling.{lines_of_steps, lines_of_told}
use Rattle.script.proofs.Lengths.{length_says}

pub said_none : (n : ℕ) (told : List ℕ) → lines_of_told 0 n told ≡ []
unfolding lines_of_told
said_none n told = refl

-- the line of the step at k
abbrev pub said_at : ℕ → ℕ → List ℕ → List ℕ
said_at k n told = step_line (n + k) (get_or told (5 * k) 0) (get_or told (5 * k + 1) 0)

-- past the first step the others are numbered one higher and told five numbers on
at_next : (k n : ℕ) (told : List ℕ) → said_at k (n + 1) (drop 5 told) ≡ said_at (suc k) n told
at_next k n told =
    let number : n + 1 + k ≡ n + suc k = omega arith in
    let first : 5 + 5 * k ≡ 5 * suc k = omega arith in
    let second : 5 + (5 * k + 1) ≡ 5 * suc k + 1 = omega arith in
    rw (get_or-drop 5 told (5 * k) 0, get_or-drop 5 told (5 * k + 1) 0, number, first, second)

said_on : (k n : ℕ) (told : List ℕ) → lines_of_told (suc k) n told ≡ lines_of_told k n told ++ said_at k n told
unfolding lines_of_told
said_on zero n told =
    let number : n + 0 ≡ n = omega arith in
    append-nil (step_line n (get_or told 0 0) (get_or told 1 0)) ∙ ap (λ (m : ℕ). step_line m (get_or told 0 0) (get_or told 1 0)) (sym number)
said_on (suc k) n told =
    let line = step_line n (get_or told 0 0) (get_or told 1 0) in
    ap (λ (more : List ℕ). line ++ more) (said_on k (n + 1) (drop 5 told) ∙ ap (λ (last : List ℕ). lines_of_told k (n + 1) (drop 5 told) ++ last) (at_next k n told))
    ∙ sym (append_assoc line (lines_of_told k (n + 1) (drop 5 told)) (said_at (suc k) n told))

pub said_more : (k n : ℕ) (told : List ℕ) → lines_of_told (k + 1) n told ≡ lines_of_told k n told ++ said_at k n told
said_more k n told = rw (add-one k) (said_on k n told)

pub said_short : (k n : ℕ) (told : List ℕ) → length (lines_of_told k n told) ≤ 63 * k
unfolding lines_of_told
said_short zero n told = omega arith
said_short (suc k) n told = rw length-append (omega (arith, length_says n (get_or told 0 0) (get_or told 1 0), said_short k (n + 1) (drop 5 told)))

-- the lines of what steps told are the lines of the steps
pub said_told : (xs : List (Option Step)) (n : ℕ) (t : Table) (rest : List ℕ) → lines_of_told (length xs) n (all_told t xs ++ rest) ≡ lines_of_steps n t xs
unfolding lines_of_told all_told lines_of_steps
said_told [] n t rest = refl
said_told (x ∷ xs) n t rest = let s = asked_step t x in ap (λ (more : List ℕ). step_line n s.answer s.result ++ more) (said_told xs (n + 1) s.table rest)
