-- Each way in which the code looks for a field, as the definition has it. Assumes nothing.
use Rattle.std.proofs.Common.{Result, Ok, Err}
use Prim.Native.Nat.{ℕ, ◌+◌, ◌≤◌, ◌<◌}
use mathlib.Core.Path.{◌≡◌, refl, ap, sym}
use mathlib.Core.List.{List}
use mathlib.Core.Bool.{Bool, true, false, ◌&&◌, ◌||◌, not, and-false}
use native.Mathlib.Omega.{arith}
use lib.Dec.{leb, eqb}
use lib.ListN.{length}
use borrow.Author.Tests.{leb-true, eqb-true, lt-leb, le-leb, le-ltb, lt-ltb, eq-eqb, ne_eqb}
use Rattle.ground.proofs.Tests.{both_hold}
use Rattle.record.specs.declared.faults.Fault.{Fault}
use Rattle.record.specs.declared.faults.FaultKind.{FaultKind}
use Rattle.record.specs.declared.faults.FaultKind.TheVariants.{Cut, OtherTag, OtherLength}
use Rattle.record.specs.Numbers.{number_at}
use Rattle.record.specs.Walk.{Look, here, away, fault, look}
use Rattle.record.specs.Reading.{whole_at, cursor_at}
use Rattle.record.proofs.Looks.{Here, looks_none, looks_past, looks_here}

neither : (must last : Bool) → (must || last) ≡ true → (not must && not last) ≡ false
neither true last e = refl
neither false true e = refl
neither false false e = sym e

module _ (bytes : List ℕ) (at tag size : ℕ) where
  pub whole_here : whole_at bytes at tag size ≡ true → Here bytes at tag size
  unfolding whole_at
  whole_here e =
      let p = both_hold (leb (at + 3 + size) (length bytes) && eqb (number_at bytes at 1) tag) (eqb (number_at bytes (at + 1) 2) size) e in
      let q = both_hold (leb (at + 3 + size) (length bytes)) (eqb (number_at bytes at 1) tag) p.0 in
      record { tag_is = eqb-true _ _ q.1; size_is = eqb-true _ _ p.1; room = leb-true _ _ q.0 }

  pub too_short : length bytes < at + 3 + size → false ≡ whole_at bytes at tag size
  unfolding whole_at
  too_short h = rw (lt-leb (at + 3 + size) (length bytes) h)

  pub tested : (t n : ℕ) → at + 3 + size ≤ length bytes → t ≡ number_at bytes at 1 → n ≡ number_at bytes (at + 1) 2
      → (eqb t tag && eqb n size) ≡ whole_at bytes at tag size
  unfolding whole_at
  tested t n h e f = rw (le-leb (at + 3 + size) (length bytes) h, e, f)

  module _ (must last : Bool) where
    abbrev found : Result ℕ Fault
    found = cursor_at at size (look bytes at tag size must last)

    abbrev stop : FaultKind → ℕ → Result ℕ Fault
    stop kind place = Err (record { kind = kind; at = place })

    is : (l : Look) → look bytes at tag size must last ≡ l → cursor_at at size l ≡ found
    is l e = ap (cursor_at at size) (sym e)

    pub whole : Here bytes at tag size → Ok (at + 3 + size) ≡ found
    whole h = is here (looks_here bytes at tag size must last h)

    pub nothing_left : length bytes ≤ at → must ≡ true → stop Cut (length bytes) ≡ found
    unfolding look
    nothing_left h m = is (fault Cut (length bytes)) (rw (m, lt-ltb (length bytes) (at + 3) (omega arith)))

    pub none : length bytes ≤ at → must ≡ false → Ok at ≡ found
    none h m = is away (rw m (looks_none bytes at tag size last h))

    pub head_cut : at < length bytes → length bytes < at + 3 → stop Cut (length bytes) ≡ found
    unfolding look
    head_cut h l = is (fault Cut (length bytes)) (rw (lt-leb (length bytes) at h, and-false (not must), lt-ltb (length bytes) (at + 3) l))

    module _ (h : at + 3 ≤ length bytes) where
      pub another : (number_at bytes at 1 ≡ tag → ⊥) → (must || last) ≡ true → stop OtherTag at ≡ found
      unfolding look
      another f m =
          is (fault OtherTag at)
          (rw (
            lt-leb (length bytes) at (omega arith),
            and-false (not must),
            le-ltb (length bytes) (at + 3) h,
            ne_eqb (number_at bytes at 1) tag f,
            neither must last m,
          ))

      pub gone : (number_at bytes at 1 ≡ tag → ⊥) → must ≡ false → last ≡ false → Ok at ≡ found
      gone f m l = is away (rw (m, l) (looks_past bytes at tag size h f))

      module _ (t : number_at bytes at 1 ≡ tag) where
        pub wrong_length : (number_at bytes (at + 1) 2 ≡ size → ⊥) → stop OtherLength at ≡ found
        unfolding look
        wrong_length f =
            is (fault OtherLength at)
            (rw (
              lt-leb (length bytes) at (omega arith),
              and-false (not must),
              le-ltb (length bytes) (at + 3) h,
              eq-eqb (number_at bytes at 1) tag t,
              ne_eqb (number_at bytes (at + 1) 2) size f,
            ))

        pub body_cut : number_at bytes (at + 1) 2 ≡ size → length bytes < at + 3 + size → stop Cut (length bytes) ≡ found
        unfolding look
        body_cut n l =
            is (fault Cut (length bytes))
            (rw (
              lt-leb (length bytes) at (omega arith),
              and-false (not must),
              le-ltb (length bytes) (at + 3) h,
              eq-eqb (number_at bytes at 1) tag t,
              eq-eqb (number_at bytes (at + 1) 2) size n,
              lt-ltb (length bytes) (at + 3 + size) l,
            ))

-- for the function that tests the whole first, and for the one that tests one after the other
pub ruleset at_once = (whole_here, whole)

pub ruleset one_by_one = (nothing_left, none, head_cut, another, gone, wrong_length, body_cut, whole)
