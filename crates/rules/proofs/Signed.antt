-- Half of the difference of two values, by the sign of the difference. Assumes nothing.
use Prim.Native.Nat.{ℕ, zero, suc, ◌/◌, ◌≤◌, ◌-◌}
use mathlib.Core.Path.{◌≡◌, refl}
use native.Mathlib.Omega.{arith}
use lib.IntN.{pos, ◌-ℤ◌}
use lib.Dec.{ltb}
use borrow.Author.Tests.{ltb-true}
use mir.Syntax.{w64}
use mir.Val.{SFits}
use Rattle.ground.specs.Limits.{most_value}
use Rattle.ground.proofs.Tests.{by_test}
use Rattle.rules.specs.Half.{half_above}

pub difference_fits : (a b : ℕ) → a ≤ most_value → b ≤ most_value → SFits w64 (pos a -ℤ pos b)
difference_fits a zero ha hb = record { sfits = omega arith }
difference_fits a (suc b) ha hb =
    by_test (ltb a (suc b)) (λ e. rw e (record { sfits = omega arith })) (λ e. rw e (record { sfits = omega arith }))

-- the half of a difference is that of the difference cut off at 0
pub half_cut : (a b : ℕ) → half_above a b ≡ (a - b) / 2
half_cut a zero = omega arith
half_cut a (suc b) = by_test (ltb a (suc b)) (λ e. rw e (omega (arith, ltb-true a (suc b) e))) (λ e. rw e refl)
