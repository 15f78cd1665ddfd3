-- The last result, one step at a time. Assumes nothing.
use Rattle.std.proofs.Common.{Option, ℕ, suc, ◌/◌, ◌<◌, ◌≡◌, List, [], ◌∷◌, ◌++◌, length, get_or, arith}
use Rattle.steps.specs.declared.asked.Step.{Step}
use Rattle.table.specs.declared.stepped.Stepped.{Stepped}
use Rattle.table.specs.declared.table.Table.{Table}
use Rattle.steps.specs.Running.{asked_by, asked_in, asked_step}
use Rattle.measure.specs.Steps.{last_result}

-- what three numbers and the numbers after them ask for
asked_first : (three after : List ℕ) → length three ≡ 3
    → asked_in (length (three ++ after) / 3) (three ++ after) ≡ asked_by (get_or three 0 0) (get_or three 1 0) (get_or three 2 0) ∷ asked_in (length after / 3) after
unfolding asked_in
asked_first [] after e = absurd (omega arith)
asked_first (a ∷ []) after e = absurd (omega arith)
asked_first (a ∷ b ∷ []) after e = absurd (omega arith)
asked_first (a ∷ b ∷ c ∷ []) after e = let one : suc (suc (suc (length after))) / 3 ≡ suc (length after / 3) = omega arith in rw one
asked_first (a ∷ b ∷ c ∷ d ∷ ds) after e = absurd (omega arith)

-- what is left gives the whole answer, and after one step more still does
pub result_next : (t : Table) (last : ℕ) {all : ℕ} {rest : List ℕ} (three after : List ℕ) (asked : Option Step) (s : Stepped)
    → last_result t last (asked_in (length rest / 3) rest) ≡ all → rest ≡ three ++ after → length three ≡ 3
    → asked ≡ asked_by (get_or three 0 0) (get_or three 1 0) (get_or three 2 0) → s ≡ asked_step t asked
    → last_result s.table s.result (asked_in (length after / 3) after) ≡ all
unfolding last_result
result_next t last three after asked s before split size e f = rw (f, e) (rw (split, asked_first three after size) at before)

pub result_ended : (t : Table) (last : ℕ) {all : ℕ} (rest : List ℕ) → length rest < 3 → last_result t last (asked_in (length rest / 3) rest) ≡ all → last ≡ all
unfolding last_result asked_in
result_ended t last rest h before = let none : length rest / 3 ≡ 0 = omega arith in rw none at before
