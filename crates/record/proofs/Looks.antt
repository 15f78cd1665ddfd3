-- What a look at a field says of the bytes, and what bytes make it say. Assumes nothing.
use Prim.Native.Nat.{ℕ, ◌+◌, ◌≤◌}
use mathlib.Core.Path.{◌≡◌, refl}
use mathlib.Core.List.{List}
use mathlib.Core.Bool.{Bool, true, false, cond, ◌&&◌, not, and-false}
use native.Mathlib.Omega.{arith}
use lib.Dec.{ltb, leb, eqb}
use lib.ListN.{length}
use borrow.Author.Tests.{ltb-false, eqb-true, not-false, lt-leb, le-leb, le-ltb, eq-eqb, ne_eqb}
use Rattle.record.specs.declared.faults.FaultKind.{FaultKind}
use Rattle.record.specs.declared.faults.FaultKind.TheVariants.{Cut, OtherTag, OtherLength}
use Rattle.record.specs.Numbers.{number_at}
use Rattle.record.specs.Walk.{Look, here, away, fault, look}

-- a whole field of this tag and length stands at a position
pub record Here (bytes : List ℕ) (at tag size : ℕ) : Type 0 where
  pub tag_is : number_at bytes at 1 ≡ tag
  pub size_is : number_at bytes (at + 1) 2 ≡ size
  pub room : at + 3 + size ≤ length bytes

-- where a chosen thing is none of the first, the test failed and it is the second
otherwise : (t : Bool) (x y z : Look) → cond t x y ≡ z → (x ≡ z → ⊥) → (t ≡ false) × (y ≡ z)
otherwise true x y z e f = absurd (f e)
otherwise false x y z e f = (refl, e)

away_no : away ≡ here → ⊥
away_no e = let z : ◌≡◌ {A = ℕ} 0 1 = cc in omega arith

fault_no : (a : FaultKind) (p : ℕ) → fault a p ≡ here → ⊥
fault_no a p e = let z : ◌≡◌ {A = ℕ} 0 1 = cc in omega arith

fault_not_away : (a : FaultKind) (p : ℕ) → fault a p ≡ away → ⊥
fault_not_away a p e = let z : ◌≡◌ {A = ℕ} 0 1 = cc in omega arith

here_not_away : here ≡ away → ⊥
here_not_away e = let z : ◌≡◌ {A = ℕ} 0 1 = cc in omega arith

module _ (bytes : List ℕ) (at tag size : ℕ) where
  module _ (must last : Bool) where
    abbrev fifth : Look
    fifth = cond (ltb (length bytes) (at + 3 + size)) (fault Cut (length bytes)) here

    abbrev fourth : Look
    fourth = cond (not (eqb (number_at bytes (at + 1) 2) size)) (fault OtherLength at) fifth

    abbrev third : Look
    third = cond (not (eqb (number_at bytes at 1) tag)) (cond (not must && not last) away (fault OtherTag at)) fourth

    abbrev second : Look
    second = cond (ltb (length bytes) (at + 3)) (fault Cut (length bytes)) third

    no_tag : (t : Bool) → cond t away (fault OtherTag at) ≡ here → ⊥
    no_tag true e = away_no e
    no_tag false e = fault_no OtherTag at e

    pub is_here : look bytes at tag size must last ≡ here → Here bytes at tag size
    unfolding look
    is_here e =
        let a = otherwise (not must && leb (length bytes) at) away second here e away_no in
        let b = otherwise (ltb (length bytes) (at + 3)) (fault Cut (length bytes)) third here a.1 (fault_no Cut (length bytes)) in
        let c = otherwise (not (eqb (number_at bytes at 1) tag)) (cond (not must && not last) away (fault OtherTag at)) fourth here b.1 (no_tag (not must && not last)) in
        let d = otherwise (not (eqb (number_at bytes (at + 1) 2) size)) (fault OtherLength at) fifth here c.1 (fault_no OtherLength at) in
        let f = otherwise (ltb (length bytes) (at + 3 + size)) (fault Cut (length bytes)) here here d.1 (fault_no Cut (length bytes)) in
        record {
          tag_is = eqb-true (number_at bytes at 1) tag (not-false (eqb (number_at bytes at 1) tag) c.0);
          size_is = eqb-true (number_at bytes (at + 1) 2) size (not-false (eqb (number_at bytes (at + 1) 2) size) d.0);
          room = ltb-false (length bytes) (at + 3 + size) f.0;
        }

    pub looks_here : Here bytes at tag size → look bytes at tag size must last ≡ here
    unfolding look
    looks_here h =
        let room = h.room in
        rw (
          lt-leb (length bytes) at (omega arith),
          and-false (not must),
          le-ltb (length bytes) (at + 3) (omega arith),
          eq-eqb (number_at bytes at 1) tag h.tag_is,
          eq-eqb (number_at bytes (at + 1) 2) size h.size_is,
          le-ltb (length bytes) (at + 3 + size) room,
        )

  pub looks_none : (last : Bool) → length bytes ≤ at → look bytes at tag size false last ≡ away
  unfolding look
  looks_none last h = rw (le-leb (length bytes) at h)

  pub looks_past : at + 3 ≤ length bytes → (number_at bytes at 1 ≡ tag → ⊥) → look bytes at tag size false false ≡ away
  unfolding look
  looks_past h f = rw (lt-leb (length bytes) at (omega arith), le-ltb (length bytes) (at + 3) h, ne_eqb (number_at bytes at 1) tag f)

  -- only a field that need not be there is away
  pub away_may : (must last : Bool) → look bytes at tag size must last ≡ away → must ≡ false
  unfolding look
  away_may false last e = refl
  away_may true last e =
      let b = otherwise (ltb (length bytes) (at + 3)) (fault Cut (length bytes)) (third true last) away e (fault_not_away Cut (length bytes)) in
      let c = otherwise (not (eqb (number_at bytes at 1) tag)) (fault OtherTag at) (fourth true last) away b.1 (fault_not_away OtherTag at) in
      let d = otherwise (not (eqb (number_at bytes (at + 1) 2) size)) (fault OtherLength at) (fifth true last) away c.1 (fault_not_away OtherLength at) in
      let f = otherwise (ltb (length bytes) (at + 3 + size)) (fault Cut (length bytes)) here away d.1 (fault_not_away Cut (length bytes)) in
      absurd (here_not_away f.1)
