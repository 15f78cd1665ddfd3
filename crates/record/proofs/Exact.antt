-- Bytes that are read without a fault are exactly the bytes of what was read, for any table.
-- Assumes nothing.
use Prim.Native.Nat.{ℕ, ◌+◌, ◌≤◌}
use mathlib.Core.Path.{◌≡◌, refl, ap, sym, ◌∙◌}
use mathlib.Core.List.{List, [], ◌∷◌, ◌++◌, append_assoc, append-nil}
use mathlib.Core.Bool.{Bool, true, false, cond}
use native.Mathlib.Omega.{arith}
use native.Mathlib.Nat.{add_assoc, add-zero}
use lib.Dec.{eqb}
use lib.ListN.{length, drop}
use lib.Seq.{drop-length}
use borrow.Author.Tests.{eqb-true}
use Rattle.record.specs.declared.faults.FaultKind.{FaultKind}
use Rattle.record.specs.declared.faults.FaultKind.TheVariants.{UnsoundNumber, Extra}
use Rattle.record.specs.Numbers.{Bytes, big, number_at}
use Rattle.record.specs.Fields.{Body, missing, body, Field, total, body_of, tagged, bytes_of, Fill, Content}
use Rattle.record.specs.Walk.{going, stopped, Look, here, away, fault, look, numbers_at, taken, step, ended, none, walk_from}
use Rattle.record.proofs.Digits.{digits_first, number_below}
use Rattle.record.proofs.Looks.{is_here, away_may}

-- what a walk_from from a byte onwards has read
pub record Read (bytes : List ℕ) (fs : List Field) (at : ℕ) (before : List Body) (end : ℕ) (content : List Body) : Type 0 where
  pub bodies : List Body
  pub all : content ≡ before ++ bodies
  pub may : Content fs before bodies
  pub form : drop at bytes ≡ bytes_of fs bodies
  pub whole : end ≡ length bytes

pub stays : (bytes : List ℕ) (fs : List Field) (kind : FaultKind) (place : ℕ) → walk_from bytes fs (stopped kind place) ≡ stopped kind place
unfolding walk_from step ended
stays bytes [] kind place = refl
stays bytes (f ∷ fs) kind place = stays bytes fs kind place

pub no_end : (a : FaultKind) (p end : ℕ) (content : List Body) → stopped a p ≡ going end content → ⊥
no_end a p end content e = let z : ◌≡◌ {A = ℕ} 0 1 = cc in omega arith

module _ (bytes : List ℕ) (b : Bytes bytes) where
  fill : (at : ℕ) (sizes : List ℕ) → Fill sizes (numbers_at bytes at sizes)
  fill at [] = tt
  fill at (size ∷ sizes) = (number_below bytes at size b, fill (at + size) sizes)

  body_is : (at : ℕ) (sizes : List ℕ) → at + total sizes ≤ length bytes → drop at bytes ≡ body_of sizes (numbers_at bytes at sizes) ++ drop (at + total sizes) bytes
  body_is at [] h = rw add-zero
  body_is at (size ∷ sizes) h =
      let first = digits_first bytes at size b (omega arith) in
      let rest = body_is (at + size) sizes (omega arith) in
      first ∙ ap (λ (l : List ℕ). big size (number_at bytes at size) ++ l) rest ∙ rw (append_assoc, add_assoc)

  field_is : (tag at : ℕ) (sizes : List ℕ) (must last : Bool) → look bytes at tag (total sizes) must last ≡ here
      → drop at bytes ≡ tagged tag sizes (numbers_at bytes (at + 3) sizes) ++ drop (at + 3 + total sizes) bytes
  field_is tag at sizes must last e =
      let h = is_here bytes at tag (total sizes) must last e in
      let room = h.room in
      let first = digits_first bytes at 1 b (omega arith) in
      let second = digits_first bytes (at + 1) 2 b (omega arith) in
      let third = body_is (at + 3) sizes (omega arith) in
      let t = h.tag_is in
      let n = h.size_is in
      let place : drop (at + 1 + 2) bytes ≡ drop (at + 3) bytes = rw add_assoc in
      simp append_assoc cc

  module _ (end : ℕ) (content : List Body) where
    at_end : (at : ℕ) (before : List Body) (t : Bool) → eqb at (length bytes) ≡ t → cond t (going at before) (stopped Extra at) ≡ going end content → Read bytes [] at before end content
    unfolding bytes_of
    at_end at before true e w =
        let l = eqb-true at (length bytes) e in
        record { bodies = []; all = let q : content ≡ before = cc in q ∙ sym (append-nil before); may = tt; form = rw (l, drop-length); whole = cc }
    at_end at before false e w = absurd (no_end Extra at end content w)

    -- what is known of the fields after a field
    abbrev Rest : List Field → Type 0
    Rest fs = (at : ℕ) (before : List Body) → at ≤ length bytes → walk_from bytes fs (going at before) ≡ going end content → Read bytes fs at before end content

    module _ (f : Field) (fs : List Field) (rest : Rest fs) (at : ℕ) (before : List Body) where
      abbrev numbers : List ℕ
      numbers = numbers_at bytes (at + 3) f.sizes

      abbrev seen : Look
      seen = look bytes at f.tag (total f.sizes) f.must (none fs)

      judged : seen ≡ here → (t : Bool) → f.sound before numbers ≡ t
          → walk_from bytes fs (cond t (going (at + 3 + total f.sizes) (before ++ (body numbers ∷ []))) (stopped UnsoundNumber at)) ≡ going end content
          → Read bytes (f ∷ fs) at before end content
      unfolding bytes_of
      judged e true s w =
          let r = rest (at + 3 + total f.sizes) (before ++ (body numbers ∷ [])) (is_here bytes at f.tag (total f.sizes) f.must (none fs) e).room w in
          record {
            bodies = body numbers ∷ r.bodies;
            all = r.all ∙ append_assoc before (body numbers ∷ []) r.bodies;
            may = ((fill (at + 3) f.sizes, s), r.may);
            form = field_is f.tag at f.sizes f.must (none fs) e ∙ ap (λ (l : List ℕ). tagged f.tag f.sizes numbers ++ l) r.form;
            whole = r.whole;
          }
      judged e false s w = absurd (no_end UnsoundNumber at end content (sym (stays bytes fs UnsoundNumber at) ∙ w))

      stepped : at ≤ length bytes → (l : Look) → seen ≡ l → walk_from bytes fs (taken bytes f at before l) ≡ going end content → Read bytes (f ∷ fs) at before end content
      unfolding bytes_of taken
      stepped h here e w = judged e (f.sound before numbers) refl w
      stepped h away e w =
          let r = rest at (before ++ (missing ∷ [])) h w in
          record {
            bodies = missing ∷ r.bodies;
            all = r.all ∙ append_assoc before (missing ∷ []) r.bodies;
            may = (away_may bytes at f.tag (total f.sizes) f.must (none fs) e, r.may);
            form = r.form;
            whole = r.whole;
          }
      stepped h (fault a p) e w = absurd (no_end a p end content (sym (stays bytes fs a p) ∙ w))

    pub exact : (fs : List Field) → Rest fs
    unfolding walk_from step ended
    exact [] at before h w = at_end at before (eqb at (length bytes)) refl w
    exact (f ∷ fs) at before h w = stepped f fs (exact fs) at before h (seen f fs (exact fs) at before) refl w
