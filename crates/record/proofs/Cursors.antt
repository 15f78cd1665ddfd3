-- What the code knows of a field that it looked for, as a step of the walk, for any line of any
-- table. Assumes nothing.
use Rattle.std.proofs.Common.{Ok, Err}
use Prim.Native.Nat.{ℕ, ◌+◌, ◌≤◌}
use mathlib.Core.Path.{◌≡◌, refl, ap, sym, ◌∙◌}
use mathlib.Core.Logic.{◌⊎◌, inl, inr}
use mathlib.Core.List.{List, [], ◌∷◌, ◌++◌}
use mathlib.Core.Bool.{Bool, true, false}
use native.Mathlib.Omega.{arith}
use lib.ListN.{length}
use Rattle.record.specs.declared.faults.Fault.{Fault}
use Rattle.record.specs.declared.faults.FaultKind.TheVariants.{UnsoundNumber}
use Rattle.record.specs.declared.fields.Line.{Line}
use Rattle.record.specs.Fields.{Body, missing, body, Field}
use Rattle.record.specs.Walk.{going, stopped, Look, here, away, fault, numbers_at, taken, step}
use Rattle.record.specs.Reading.{cursor_at, line_for, look_for, next_of}
use Rattle.record.proofs.Looks.{Here, is_here, away_may}

module _ (at size : ℕ) where
  -- what is handed on says of the look that it comes from
  fault_look : (l : Look) (e : Fault) → Err e ≡ cursor_at at size l → l ≡ fault e.kind e.at
  fault_look here e is = cc
  fault_look away e is = cc
  fault_look (fault k p) e is = let same : e ≡ record { kind = k; at = p } = cc in rw same

  here_look : (l : Look) (p : ℕ) → Ok p ≡ cursor_at at size l → (p ≡ at → ⊥) → l ≡ here
  here_look here p is f = refl
  here_look away p is f = let same : p ≡ at = cc in absurd (f same)
  here_look (fault k q) p is f = cc

  away_look : (l : Look) (p : ℕ) → Ok p ≡ cursor_at at size l → p ≡ at → l ≡ away
  away_look here p is e = let past : p ≡ at + 3 + size = cc in absurd (omega arith)
  away_look away p is e = refl
  away_look (fault k q) p is e = cc

  -- a field that is not away has been gone past
  must_look : (l : Look) (p : ℕ) → Ok p ≡ cursor_at at size l → (l ≡ away → ⊥) → l ≡ here
  must_look here p is f = refl
  must_look away p is f = absurd (f refl)
  must_look (fault k q) p is f = cc

  past_look : (l : Look) (p : ℕ) → Ok p ≡ cursor_at at size l → l ≡ here → p ≡ at + 3 + size
  past_look l p is e = let same : Ok p ≡ cursor_at at size here = rw e at is in cc

module _ (bytes : List ℕ) (at : ℕ) (line : Line) where
  pub stops : (e : Fault) → Err e ≡ next_of bytes at line → look_for bytes at line ≡ fault e.kind e.at
  unfolding next_of
  stops e is = fault_look at line.size (look_for bytes at line) e is

  module _ (p : ℕ) (is : Ok p ≡ next_of bytes at line) where
    pub missing_there : p ≡ at → look_for bytes at line ≡ away
    unfolding next_of
    missing_there e = away_look at line.size (look_for bytes at line) p is e

    pub gone_on : (p ≡ at → ⊥) → look_for bytes at line ≡ here
    unfolding next_of
    gone_on f = here_look at line.size (look_for bytes at line) p is f

    pub must_stand : line.must ≡ true → look_for bytes at line ≡ here
    unfolding next_of
    must_stand m =
        must_look at line.size (look_for bytes at line) p is
        (λ e. let x : true ≡ false = sym m ∙ away_may bytes at line.tag line.size line.must line.last e in cc)

    module _ (there : look_for bytes at line ≡ here) where
      pub past_here : p ≡ at + 3 + line.size
      unfolding next_of
      past_here = past_look at line.size (look_for bytes at line) p is there

      pub room : at + 3 + line.size ≤ length bytes
      room = (is_here bytes at line.tag line.size line.must line.last there).room

    -- a field is there where it must be, or where reading has gone on: the whole of it, and reading
    -- stands past it
    found_here : (line.must ≡ true) ⊎ (p ≡ at → ⊥) → look_for bytes at line ≡ here
    found_here (inl m) = must_stand m
    found_here (inr f) = gone_on f

    pub stands : (line.must ≡ true) ⊎ (p ≡ at → ⊥) → Here bytes at line.tag line.size
    stands found = is_here bytes at line.tag line.size line.must line.last (found_here found)

    pub past : (line.must ≡ true) ⊎ (p ≡ at → ⊥) → p ≡ at + 3 + line.size
    past found = past_here (found_here found)

    pub field_room : (line.must ≡ true) ⊎ (p ≡ at → ⊥) → at + 3 + line.size ≤ length bytes
    field_room found = (stands found).room

    pub must_room : line.must ≡ true → at + 3 + line.size ≤ length bytes
    must_room m = field_room (inl m)

module _ (bytes : List ℕ) (f : Field) (last : Bool) (at : ℕ) where
  abbrev line : Line
  line = line_for f last

  -- a fault of the form
  pub faulted : (e : Fault) → Err e ≡ next_of bytes at line → (before : List Body) → step bytes f last (going at before) ≡ stopped e.kind e.at
  unfolding step taken
  faulted e is before = ap (taken bytes f at before) (stops bytes at line e is)

  module _ (p : ℕ) (is : Ok p ≡ next_of bytes at line) where
    -- the field is missing
    pub missed : (before : List Body) → p ≡ at → step bytes f last (going at before) ≡ going p (before ++ (missing ∷ []))
    unfolding step taken
    missed before e = rw (missing_there bytes at line p is e, e)

    module _ (found : (f.must ≡ true) ⊎ (p ≡ at → ⊥)) (before : List Body) (numbers : List ℕ) (read : numbers ≡ numbers_at bytes (at + 3) f.sizes) where
      -- its numbers are sound, or are not
      pub took : f.sound before numbers ≡ true → step bytes f last (going at before) ≡ going p (before ++ (body numbers ∷ []))
      unfolding step taken
      took s = rw (found_here bytes at line p is found, ← read, s, past bytes at line p is found)

      pub refused : f.sound before numbers ≡ false → step bytes f last (going at before) ≡ stopped UnsoundNumber at
      unfolding step taken
      refused s = rw (found_here bytes at line p is found, ← read, s)
