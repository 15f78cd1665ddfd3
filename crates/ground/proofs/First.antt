-- The first number at which a test holds, one number at a time: it holds there, and at no number
-- before. Assumes nothing.
use Prim.Native.Nat.{ℕ, zero, suc, ◌+◌, ◌<◌, ◌≤◌}
use mathlib.Core.Path.{◌≡◌, refl}
use mathlib.Core.Bool.{Bool, true, false}
use native.Mathlib.Omega.{arith}
use native.Mathlib.Numerals.{add-one}
use lib.Dec.{ltb}
use borrow.Author.Tests.{ltb-true, ltb-false}
use Rattle.ground.specs.First.{first_from}

module _ (test : ℕ → Bool) where
  pub first_none : (n i : ℕ) → n ≡ 0 → first_from test n i ≡ i
  unfolding first_from
  first_none n i e = rw e

  pub first_here : (n m i : ℕ) → n ≡ m + 1 → test i ≡ true → first_from test n i ≡ i
  unfolding first_from
  first_here n m i e h = rw (e, add-one m, h)

  pub first_later : (n m i : ℕ) → n ≡ m + 1 → test i ≡ false → first_from test n i ≡ first_from test m (i + 1)
  unfolding first_from
  first_later n m i e h = rw (e, add-one m, h)

  -- an earlier number is the first one looked at, where the test does not hold, or comes later
  past : (i k : ℕ) → i ≤ k → test i ≡ false → (i + 1 ≤ k → test k ≡ false) → test k ≡ false
  past i k low e f = by (ltb i k) refl
    where
      by : (b : Bool) → ltb i k ≡ b → test k ≡ false
      by true l = let x = ltb-true i k l in f (omega arith)
      by false l = let x = ltb-false i k l in let same : k ≡ i = omega arith in rw same e

  pub first_holds : (n i : ℕ) → first_from test n i < i + n → test (first_from test n i) ≡ true
  unfolding first_from
  first_holds zero i h = absurd (omega arith)
  first_holds (suc n) i h = by (test i) refl (λ l. first_holds n (i + 1) l)
    where
      by : (b : Bool) → test i ≡ b → (first_from test n (i + 1) < i + 1 + n → test (first_from test n (i + 1)) ≡ true) → test (first_from test (suc n) i) ≡ true
      by true e f = rw (e, e)
      by false e f = rw e (f (let l : first_from test n (i + 1) < i + suc n = rw e at h in omega arith))

  pub first_after : (n i k : ℕ) → i ≤ k → k < first_from test n i → test k ≡ false
  unfolding first_from
  first_after zero i k low h = absurd (omega arith)
  first_after (suc n) i k low h = by (test i) refl (λ l m. first_after n (i + 1) k l m)
    where
      by : (b : Bool) → test i ≡ b → (i + 1 ≤ k → k < first_from test n (i + 1) → test k ≡ false) → test k ≡ false
      by true e f = let l : k < i = rw e at h in absurd (omega arith)
      by false e f = past i k low e (λ l. f l (rw e at h))

  pub first_least : (n i k : ℕ) → i ≤ k → test k ≡ true → first_from test n i ≤ k
  first_least n i k low e = by (ltb k (first_from test n i)) refl
    where
      by : (b : Bool) → ltb k (first_from test n i) ≡ b → first_from test n i ≤ k
      by true l =
          let f = first_after n i k low (ltb-true _ _ l) in
          let z : ◌≡◌ {A = ℕ} 0 1 = cc in
          absurd (omega arith)
      by false l = ltb-false _ _ l

-- tests that agree find the same number
pub first_same : (f g : ℕ → Bool) → ((i : ℕ) → f i ≡ g i) → (n i : ℕ) → first_from f n i ≡ first_from g n i
unfolding first_from
first_same f g e zero i = refl
first_same f g e (suc n) i = rw (e i, first_same f g e n (i + 1))
