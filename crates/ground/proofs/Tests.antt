-- What follows from a test, from two at once, and from one that fails. Assumes nothing.
use Prim.Native.Nat.{ℕ, suc, ◌<◌, ◌≤◌}
use mathlib.Core.Path.{◌≡◌, refl}
use mathlib.Core.Logic.{◌⊎◌, inl, inr}
use mathlib.Core.Bool.{Bool, true, false, ◌&&◌, ◌||◌}
use native.Mathlib.Omega.{arith}
use lib.Dec.{eqb, ltb, leb}
use borrow.Author.Tests.{eqb-true, ltb-true, ltb-false, leb-true}

-- a test without which false would be true, and one with which true would be false
pub needed : (t : Bool) → (t ≡ false → false ≡ true) → t ≡ true
needed true f = refl
needed false f = f refl

pub not_allowed : (t : Bool) → (t ≡ true → true ≡ false) → t ≡ false
not_allowed true f = f refl
not_allowed false f = refl

pub refuted : (t : Bool) → (t ≡ true → ⊥) → t ≡ false
refuted true f = absurd (f refl)
refuted false f = refl

-- what a test says of two numbers, where false would be true without it
pub at_most : (a b : ℕ) → (leb a b ≡ false → false ≡ true) → a ≤ b
at_most a b f = leb-true a b (needed (leb a b) f)

pub below : (a b : ℕ) → (ltb a b ≡ false → false ≡ true) → a < b
below a b f = ltb-true a b (needed (ltb a b) f)

pub equal : (a b : ℕ) → (eqb a b ≡ false → false ≡ true) → a ≡ b
equal a b f = eqb-true a b (needed (eqb a b) f)

-- what follows from a test, and from its failing
pub by_test : (t : Bool) {A : Type 0} → (t ≡ true → A) → (t ≡ false → A) → A
by_test true f g = f refl
by_test false f g = g refl

-- both parts of a test that holds
pub both_hold : (a b : Bool) → (a && b) ≡ true → (a ≡ true) × (b ≡ true)
both_hold true b e = (refl, e)
both_hold false b e = let z : ◌≡◌ {A = ℕ} 0 1 = cc in absurd (omega arith)

-- one of two holds, and the other does not
pub other_one : (a b : Bool) → (a || b) ≡ true → (b ≡ true → false ≡ true) → a ≡ true
other_one true b e f = refl
other_one false b e f = f e

-- two tests joined, each known by what a call ensures
pub both_tests : {a b c d : Bool} {t : Bool} → c ≡ a → d ≡ b → (c && d) ≡ t → (a && b) ≡ t
both_tests ca db e = cc

-- two pairs of numbers at once
pub both_same : (a b c d : ℕ) → (eqb a b && eqb c d) ≡ true → (a ≡ b) × (c ≡ d)
both_same a b c d p = let h = both_hold (eqb a b) (eqb c d) p in (eqb-true a b h.0, eqb-true c d h.1)

pub not_both_same : (a b c d : ℕ) → (a ≡ b → c ≡ d → ⊥) → (eqb a b && eqb c d) ≡ false
not_both_same a b c d n = refuted (eqb a b && eqb c d) (λ p. let e = both_same a b c d p in n e.0 e.1)

pub both_below : (k n i m : ℕ) → (ltb k n && ltb i m) ≡ true → (k < n) × (i < m)
both_below k n i m e = let h = both_hold (ltb k n) (ltb i m) e in (ltb-true k n h.0, ltb-true i m h.1)

-- a number is below another or not, and below the next or the same
pub below_or_not : (k n : ℕ) → (k < n) ⊎ (n ≤ k)
below_or_not k n = by_test (ltb k n) (λ e. inl (ltb-true k n e)) (λ e. inr (ltb-false k n e))

pub below_or_last : (n k : ℕ) → k < suc n → (k < n) ⊎ (n ≡ k)
below_or_last n k h = by_test (ltb k n) (λ e. inl (ltb-true k n e)) (λ e. let l = ltb-false k n e in inr (omega arith))
