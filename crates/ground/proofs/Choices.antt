-- Choices by a test, and by an answer. Assumes nothing.
use Prim.Native.Nat.{ℕ, zero, suc, ◌≤◌}
use mathlib.Core.Path.{◌≡◌, refl}
use mathlib.Core.Bool.{Bool, true, false, cond}
use native.Mathlib.Omega.{arith}
use Rattle.ground.specs.Choice.{if_done}

-- what holds of both ways of a choice, each under its test
pub chosen : {A : Type 0} (P : A → Type 0) (t : Bool) (x y : A) → (t ≡ true → P x) → (t ≡ false → P y) → P (cond t x y)
chosen P true x y f g = f refl
chosen P false x y f g = g refl

-- a choice between two that are the same wherever the first is chosen
pub choice_same : {A : Type 0} (t : Bool) (x y : A) → (t ≡ true → x ≡ y) → cond t x y ≡ y
choice_same true x y e = e refl
choice_same false x y e = refl

-- a choice rises with what it chooses
pub choice_rises : (t : Bool) {x x' : ℕ} (y : ℕ) → x ≤ x' → cond t x y ≤ cond t x' y
choice_rises true y p = p
choice_rises false y p = omega arith

-- what is made of a choice is a choice of what is made
pub made_of_choice : {A B : Type 0} (f : A → B) (t : Bool) (x y : A) → f (cond t x y) ≡ cond t (f x) (f y)
made_of_choice f true x y = refl
made_of_choice f false x y = refl

-- what was done where the answer is 0, and the refusal where it is not
pub when_done : {A : Type 0} {n : ℕ} (d r : A) → n ≡ 0 → d ≡ if_done n d r
when_done d r e = rw e

pub when_refused : {A : Type 0} (n : ℕ) (d r : A) → (n ≡ 0 → ⊥) → r ≡ if_done n d r
when_refused zero d r f = absurd (f refl)
when_refused (suc n) d r f = refl

-- what holds of both, of the first where the answer is 0
pub either_way : {A : Type 0} (P : A → Type 0) (n : ℕ) (d r : A) → (n ≡ 0 → P d) → P r → P (if_done n d r)
either_way P zero d r f p = f refl
either_way P (suc n) d r f p = p

-- what is told of an outcome is the answer, where what was done tells 0 and the refusal the answer
pub answer_told : {A : Type 0} (tells : A → ℕ) (n : ℕ) (d r : A) → tells d ≡ 0 → tells r ≡ n → tells (if_done n d r) ≡ n
answer_told tells zero d r e f = e
answer_told tells (suc n) d r e f = f
