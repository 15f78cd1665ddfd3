-- A run that fails one clause, and passes the tests of all others, fails that one alone. Assumes
-- nothing.
use Prim.Native.Nat.{ℕ, ◌<◌}
use mathlib.Core.Path.{◌≡◌, refl, ap, sym, ◌∙◌}
use mathlib.Core.Bool.{true, ◌||◌}
use mathlib.Core.List.{List}
use mathlib.Core.Logic.{◌≢◌}
use native.Mathlib.Omega.{arith}
use lib.Dec.{eqb}
use lib.ListN.{get_or}
use borrow.Author.Tests.{eqb-true}
use Rattle.ground.proofs.Below.{all_at}
use Rattle.steps.specs.declared.asked.Step.{Step}
use Rattle.table.specs.declared.table.Table.{Table}
use Rattle.runs.specs.Runs.{Build}
use Rattle.runs.specs.Clauses.{Clause, passes, departed_before, one_departure, one_arrival, way, sound, answers, stale, says, FailsAlone}
use Rattle.runs.specs.Tested.{test, clauses, place_of, others_test}
use Rattle.ground.proofs.Tests.{other_one}
use Rattle.runs.proofs.Tested.{tested}

listed : (clause : Clause) → get_or clauses (place_of clause) stale ≡ clause
listed passes = refl
listed departed_before = refl
listed one_departure = refl
listed one_arrival = refl
listed way = refl
listed sound = refl
listed answers = refl
listed stale = refl

placed : (clause : Clause) → place_of clause < 8
placed passes = omega arith
placed departed_before = omega arith
placed one_departure = omega arith
placed one_arrival = omega arith
placed way = omega arith
placed sound = omega arith
placed answers = omega arith
placed stale = omega arith

same_place : (a b : Clause) → place_of a ≡ place_of b → a ≡ b
same_place a b e = sym (listed a) ∙ ap (λ (n : ℕ). get_or clauses n stale) e ∙ listed b

-- a run that fails one clause and passes the tests of all others
pub alone : {clause : Clause} {build : Build} {t : Table} {steps : List Step} → others_test clause build t steps ≡ true → (says clause build t steps → ⊥)
    → FailsAlone clause build t steps
alone {clause} {build} {t} {steps} e f = record { fails = f; others = λ other apart. others other apart }
  where
    others : (other : Clause) → other ≢ clause → says other build t steps
    others other apart =
        let at_place = all_at (λ n. test (get_or clauses n stale) build t steps || eqb n (place_of clause)) 8 (place_of other) e (placed other) in
        let here : (test other build t steps || eqb (place_of other) (place_of clause)) ≡ true = rw (listed other) at at_place in
        tested other build t steps
        (other_one (test other build t steps) _ here (λ z. absurd (apart (same_place other clause (eqb-true _ _ z)))))
