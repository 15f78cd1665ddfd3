-- Answers looked for in order. Assumes nothing.
use Prim.Native.Nat.{ℕ, suc}
use mathlib.Core.Path.{◌≡◌, refl}
use mathlib.Core.Bool.{Bool, true, false, cond}
use mathlib.Core.Logic.{⊎_elim}
use mathlib.Core.List.Memᴰ
use mathlib.Core.List.{List, [], ◌∷◌, ◌++◌, Memᴰ}
use native.Mathlib.Omega.{arith}
use Rattle.ground.specs.Answers.{done}
use Rattle.ground.specs.Refusals.{Refusal, first, answer_of, numbers_in}

-- an answer of 0 has passed its first test
pub passed : (t : Bool) (n : ℕ) {later : ℕ} → first t (suc n) later ≡ 0 → (t ≡ false) × (later ≡ 0)
passed false n e = (refl, e)
passed true n e = absurd (omega arith)

-- the answer is 0 or one of the numbers
among_by : (t : Bool) (n : ℕ) {later : ℕ} {ns : List ℕ} → Memᴰ later (done ∷ ns) → Memᴰ (cond t n later) (done ∷ n ∷ ns)
among_by true n m = Memᴰ.tail (Memᴰ.head refl)
among_by false n m = ⊎_elim (λ e. Memᴰ.head e) (λ l. Memᴰ.tail (Memᴰ.tail l)) (Memᴰ.cases_cons m)

pub answer_among : (rs : List Refusal) → Memᴰ (answer_of rs) (done ∷ numbers_in rs)
answer_among [] = Memᴰ.head refl
answer_among (r ∷ rs) = among_by r.condition r.number (answer_among rs)

-- what is refused by the first of some conditions is refused by those with more after them
refused_before : (t : Bool) (n : ℕ) {a b : ℕ} → ((b ≡ 0 → ⊥) → a ≡ b) → (cond t n b ≡ 0 → ⊥) → cond t n a ≡ cond t n b
refused_before true n same f = refl
refused_before false n same f = same f

pub answer_before : (xs ys : List Refusal) → (answer_of xs ≡ 0 → ⊥) → answer_of (xs ++ ys) ≡ answer_of xs
answer_before [] ys f = absurd (f refl)
answer_before (r ∷ rs) ys f = refused_before r.condition r.number (answer_before rs ys) f
