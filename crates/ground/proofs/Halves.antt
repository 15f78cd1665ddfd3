-- Half of a difference, by its sign. Assumes nothing.
use Prim.Native.Nat.{ℕ, ◌<◌}
use mathlib.Core.Path.{◌≡◌, refl}
use mathlib.Core.Bool.{true, false}
use native.Mathlib.Omega.{arith}
use lib.IntN.{ℤ, pos, negsuc, nat_abs}
use lib.Dec.{T}
use lib.Signed.{lt_z, quot_z, non_neg}
use borrow.Author.Tests.{ltb-true}
use mir.Syntax.{w64}
use mir.Val.{SFits, Fits}
use Rattle.ground.specs.Half.{half_of}

pub half_of_negative : (d : ℤ) → lt_z d (pos 0) ≡ true → ◌≡◌ {A = ℕ} 0 (half_of d)
half_of_negative (pos n) e = omega (arith, ltb-true n 0 e)
half_of_negative (negsuc n) e = refl

-- what the code's halving of a number that is not negative asks and gives
pub record Halved (d : ℤ) : Type 0 where
  pub fits : SFits w64 (quot_z d (pos 2))
  pub sign : T (non_neg (quot_z d (pos 2)))
  pub small : Fits w64 (nat_abs (quot_z d (pos 2)))
  pub is : nat_abs (quot_z d (pos 2)) ≡ half_of d

pub half_of_rest : (d : ℤ) → SFits w64 d → lt_z d (pos 0) ≡ false → Halved d
half_of_rest (pos n) f e =
    let h : n < 9223372036854775808 = f.sfits in
    record { fits = record { sfits = omega arith }; sign = tt; small = record { fits = omega arith }; is = refl }
half_of_rest (negsuc n) f e = let z : ◌≡◌ {A = ℕ} 0 1 = cc in absurd (omega arith)
