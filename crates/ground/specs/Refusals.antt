-- Refusals as a list: conditions with their numbers, in the order in which they are looked at.
use Rattle.std.specs.Prelude.{ℕ, Bool, cond, List, [], ◌∷◌}
use Rattle.ground.specs.Answers.{done}

-- a condition, and the answer where it holds
pub record Refusal : Type 0 where
  pub condition : Bool
  pub number : ℕ

abbrev pub when : Bool → ℕ → Refusal
when c n = record { condition = c; number = n }

-- the number of the first that holds, else 0
abbrev pub answer_of : List Refusal → ℕ
answer_of [] = done
answer_of (r ∷ rs) = cond r.condition r.number (answer_of rs)

abbrev pub numbers_in : List Refusal → List ℕ
numbers_in [] = []
numbers_in (r ∷ rs) = r.number ∷ numbers_in rs

-- the answer is n where the test holds, and else what the later tests give
abbrev pub first : Bool → ℕ → ℕ → ℕ
first t n later = cond t n later
