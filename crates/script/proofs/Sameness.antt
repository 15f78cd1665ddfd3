-- Two lists compared byte by byte. Assumes nothing.
use Prim.Native.Nat.{ℕ}
use mathlib.Core.Path.{◌≡◌, refl, ap}
use mathlib.Core.Bool.{Bool, true, false, ◌&&◌, and-eq-true_iff}
use mathlib.Core.List.{List, [], ◌∷◌}
use borrow.Author.Tests.{eqb-true}
use lib.Dec.{eqb}
use lib.ListN.{length}
use lib.Pointwise.{pointwise}
use Rattle.ground.proofs.Tests.{refuted}
use Rattle.script.specs.Words.{same_bytes}

-- the library's comparison says what the definition says
pub same_is : (a b : List ℕ) → pointwise eqb a b ≡ same_bytes a b
same_is [] [] = refl
same_is [] (y ∷ ys) = refl
same_is (x ∷ xs) [] = refl
same_is (x ∷ xs) (y ∷ ys) = ap (λ (t : Bool). eqb x y && t) (same_is xs ys)

-- which holds just of the same list
pub same_true : (a b : List ℕ) → same_bytes a b ≡ true → a ≡ b
same_true [] [] e = refl
same_true [] (y ∷ ys) e = cc
same_true (x ∷ xs) [] e = cc
same_true (x ∷ xs) (y ∷ ys) e =
    let both = (and-eq-true_iff (eqb x y) (same_bytes xs ys)).0 e in
    cc (eqb-true x y both.0, same_true xs ys both.1)

pub same_lengths : (a b : List ℕ) → (length a ≡ length b → ⊥) → same_bytes a b ≡ false
same_lengths a b f = refuted (same_bytes a b) (λ e. f (ap length (same_true a b e)))
