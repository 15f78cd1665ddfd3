-- Sums one term at a time, sums that agree, that differ at one place, and their bounds. Assumes
-- nothing.
use Prim.Native.Nat.{ℕ, zero, suc, ◌+◌, ◌*◌, ◌≤◌, ◌<◌}
use mathlib.Core.Path.{◌≡◌, refl, ap}
use native.Mathlib.Omega.{arith}
use native.Mathlib.Decide.{ℕ_discrete}
use native.Mathlib.Numerals.{add-one}
use Rattle.ground.specs.Sums.{sum_below, sum_pairs}

pub sum_none : (f : ℕ → ℕ) → sum_below f 0 ≡ 0
unfolding sum_below
sum_none f = refl

pub sum_more : (f : ℕ → ℕ) (k : ℕ) → sum_below f (k + 1) ≡ sum_below f k + f k
unfolding sum_below
sum_more f k = rw (add-one k)

pub sum_same : (f g : ℕ → ℕ) (n : ℕ) → ((a : ℕ) → a < n → f a ≡ g a) → sum_below f n ≡ sum_below g n
unfolding sum_below
sum_same f g zero h = refl
sum_same f g (suc n) h = omega (arith, sum_same f g n (λ a p. h a (omega arith)), h n (omega arith))

-- where the terms differ at x only
pub sum_one : (f g : ℕ → ℕ) (n x : ℕ) → x < n → ((a : ℕ) → (a ≡ x → ⊥) → f a ≡ g a) → sum_below f n + g x ≡ sum_below g n + f x
unfolding sum_below
sum_one f g zero x p h = absurd (omega arith)
sum_one f g (suc n) x p h = go (ℕ_discrete n x) (λ q. sum_one f g n x q h)
  where
    go : Dec (n ≡ x) → (x < n → sum_below f n + g x ≡ sum_below g n + f x) → (sum_below f n + f n) + g x ≡ (sum_below g n + g n) + f x
    go (yes e) ih = omega (arith, sum_same f g n (λ a q. h a (λ i. omega arith)), ap f e, ap g e)
    go (no e) ih = omega (arith, ih (omega arith), h n e)

pub sum_most : (f : ℕ → ℕ) (n k : ℕ) → ((a : ℕ) → a < n → f a ≤ k) → sum_below f n ≤ n * k
unfolding sum_below
sum_most f zero k h = omega arith
sum_most f (suc n) k h = omega (arith, sum_most f n k (λ a p. h a (omega arith)), h n (omega arith))

pub sum_nothing : (f : ℕ → ℕ) (n : ℕ) → ((a : ℕ) → a < n → f a ≡ 0) → sum_below f n ≡ 0
sum_nothing f n h = omega (arith, sum_most f n 0 (λ a p. omega (arith, h a p)))

-- no term is more than the sum
pub sum_term : (f : ℕ → ℕ) (n x : ℕ) → x < n → f x ≤ sum_below f n
unfolding sum_below
sum_term f zero x p = absurd (omega arith)
sum_term f (suc n) x p = go (ℕ_discrete n x) (λ q. sum_term f n x q)
  where
    go : Dec (n ≡ x) → (x < n → f x ≤ sum_below f n) → f x ≤ sum_below f n + f n
    go (yes e) ih = omega (arith, ap f e)
    go (no e) ih = omega (arith, ih (omega arith))

-- the same over pairs
pub pairs_same : (f g : ℕ → ℕ → ℕ) (n : ℕ) → ((a b : ℕ) → a < n → b < n → f a b ≡ g a b) → sum_pairs f n ≡ sum_pairs g n
pairs_same f g n h = sum_same (λ a. sum_below (f a) n) (λ a. sum_below (g a) n) n (λ a p. sum_same (f a) (g a) n (λ b q. h a b p q))

pub pairs_nothing : (f : ℕ → ℕ → ℕ) (n : ℕ) → ((a b : ℕ) → a < n → b < n → f a b ≡ 0) → sum_pairs f n ≡ 0
pairs_nothing f n h = sum_nothing (λ a. sum_below (f a) n) n (λ a p. sum_nothing (f a) n (λ b q. h a b p q))

pub pairs_one : (f g : ℕ → ℕ → ℕ) (n x y : ℕ) → x < n → y < n → ((a b : ℕ) → (a ≡ x → b ≡ y → ⊥) → f a b ≡ g a b)
    → sum_pairs f n + g x y ≡ sum_pairs g n + f x y
pairs_one f g n x y p q h =
    omega (
      arith,
      sum_one (λ a. sum_below (f a) n) (λ a. sum_below (g a) n) n x p (λ a i. sum_same (f a) (g a) n (λ b r. h a b (λ u v. i u))),
      sum_one (f x) (g x) n y q (λ b i. h x b (λ u v. i v)),
    )
