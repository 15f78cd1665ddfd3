-- Laws of a test at every number below a bound. Assumes nothing.
use Prim.Native.Nat.{ℕ, zero, suc, ◌+◌, ◌<◌}
use mathlib.Core.Path.{◌≡◌, refl, subst}
use mathlib.Core.Logic.{⊎_elim}
use mathlib.Core.Bool.{Bool, true, ◌&&◌}
use native.Mathlib.Omega.{arith}
use native.Mathlib.Numerals.{add-one}
use Rattle.ground.specs.Below.{all_below}
use Rattle.ground.proofs.Tests.{both_hold, below_or_last}

pub all_none : (p : ℕ → Bool) → all_below p 0 ≡ true
unfolding all_below
all_none p = refl

pub all_more : (p : ℕ → Bool) (k : ℕ) → all_below p (k + 1) ≡ (all_below p k && p k)
unfolding all_below
all_more p k = rw (add-one k)

-- what holds at every number below a bound holds at each
pub all_at : (p : ℕ → Bool) (n k : ℕ) → all_below p n ≡ true → k < n → p k ≡ true
unfolding all_below
all_at p zero k e h = absurd (omega arith)
all_at p (suc n) k e h =
    let s = both_hold (all_below p n) (p n) e in
    ⊎_elim (λ l. all_at p n k s.0 l) (λ l. subst (λ (i : ℕ). p i ≡ true) l s.1) (below_or_last n k h)

-- and what holds at each holds at every one
pub all_from : (p : ℕ → Bool) (n : ℕ) → ((k : ℕ) → k < n → p k ≡ true) → all_below p n ≡ true
unfolding all_below
all_from p zero f = refl
all_from p (suc n) f = rw (all_from p n (λ k h. f k (omega arith)), f n (omega arith))
