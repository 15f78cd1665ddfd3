-- What was read without a fault has passed the tests of its table, whatever list of numbers was
-- read. Assumes nothing.
use Prim.Native.Nat.{ℕ, ◌+◌}
use mathlib.Core.Path.{◌≡◌, refl, sym, ◌∙◌}
use mathlib.Core.List.{List, [], ◌∷◌, ◌++◌, append_assoc, append-nil}
use mathlib.Core.Bool.{Bool, true, false, cond}
use lib.Dec.{eqb}
use lib.ListN.{length}
use borrow.Author.Tests.{eqb-true}
use Rattle.record.specs.declared.faults.FaultKind.TheVariants.{UnsoundNumber, Extra}
use Rattle.record.specs.Fields.{Body, missing, body, Field, total}
use Rattle.record.specs.Walk.{going, stopped, Look, here, away, fault, look, numbers_at, taken, step, ended, none, walk_from}
use Rattle.record.proofs.Looks.{away_may}
use Rattle.record.proofs.Exact.{stays, no_end}

-- as many numbers as sizes
abbrev pub Many : List ℕ → List ℕ → Type 0
Many [] [] = Unit {0}
Many [] (x ∷ numbers) = ⊥
Many (size ∷ sizes) [] = ⊥
Many (size ∷ sizes) (x ∷ numbers) = Many sizes numbers

abbrev pub Passes : Field → List Body → Body → Type 0
Passes f before missing = f.must ≡ false
Passes f before (body numbers) = Many f.sizes numbers × (f.sound before numbers ≡ true)

abbrev pub Passed : List Field → List Body → List Body → Type 0
Passed [] before [] = Unit {0}
Passed [] before (b ∷ bodies) = ⊥
Passed (f ∷ fs) before [] = ⊥
Passed (f ∷ fs) before (b ∷ bodies) = Passes f before b × Passed fs (before ++ (b ∷ [])) bodies

pub record Went (bytes : List ℕ) (fs : List Field) (before : List Body) (end : ℕ) (content : List Body) : Type 0 where
  pub bodies : List Body
  pub all : content ≡ before ++ bodies
  pub tests : Passed fs before bodies
  pub whole : end ≡ length bytes

many : (bytes : List ℕ) (at : ℕ) (sizes : List ℕ) → Many sizes (numbers_at bytes at sizes)
many bytes at [] = tt
many bytes at (size ∷ sizes) = many bytes (at + size) sizes

module _ (bytes : List ℕ) (end : ℕ) (content : List Body) where
  abbrev On : List Field → Type 0
  On fs = (at : ℕ) (before : List Body) → walk_from bytes fs (going at before) ≡ going end content → Went bytes fs before end content

  at_end : (at : ℕ) (before : List Body) (t : Bool) → eqb at (length bytes) ≡ t → cond t (going at before) (stopped Extra at) ≡ going end content → Went bytes [] before end content
  at_end at before true e w =
      let h = eqb-true at (length bytes) e in
      let p : at ≡ end = cc in
      let q : before ≡ content = cc in
      record { bodies = []; all = sym q ∙ sym (append-nil before); tests = tt; whole = sym p ∙ h }
  at_end at before false e w = absurd (no_end Extra at end content w)

  module _ (f : Field) (fs : List Field) (rest : On fs) (at : ℕ) (before : List Body) where
    abbrev numbers : List ℕ
    numbers = numbers_at bytes (at + 3) f.sizes

    abbrev seen : Look
    seen = look bytes at f.tag (total f.sizes) f.must (none fs)

    judged : (t : Bool) → f.sound before numbers ≡ t
        → walk_from bytes fs (cond t (going (at + 3 + total f.sizes) (before ++ (body numbers ∷ []))) (stopped UnsoundNumber at)) ≡ going end content → Went bytes (f ∷ fs) before end content
    judged true s w =
        let r = rest (at + 3 + total f.sizes) (before ++ (body numbers ∷ [])) w in
        record {
          bodies = body numbers ∷ r.bodies;
          all = r.all ∙ append_assoc before (body numbers ∷ []) r.bodies;
          tests = ((many bytes (at + 3) f.sizes, s), r.tests);
          whole = r.whole;
        }
    judged false s w = absurd (no_end UnsoundNumber at end content (sym (stays bytes fs UnsoundNumber at) ∙ w))

    stepped : (l : Look) → seen ≡ l → walk_from bytes fs (taken bytes f at before l) ≡ going end content → Went bytes (f ∷ fs) before end content
    unfolding taken
    stepped here e w = judged (f.sound before numbers) refl w
    stepped away e w =
        let r = rest at (before ++ (missing ∷ [])) w in
        record {
          bodies = missing ∷ r.bodies;
          all = r.all ∙ append_assoc before (missing ∷ []) r.bodies;
          tests = (away_may bytes at f.tag (total f.sizes) f.must (none fs) e, r.tests);
          whole = r.whole;
        }
    stepped (fault n p) e w = absurd (no_end n p end content (sym (stays bytes fs n p) ∙ w))

  pub went : (fs : List Field) → On fs
  unfolding walk_from step ended
  went [] at before w = at_end at before (eqb at (length bytes)) refl w
  went (f ∷ fs) at before w = stepped f fs (went fs) at before (seen f fs (went fs) at before) refl w
