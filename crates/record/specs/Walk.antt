-- A record read field by field, front to back: what it holds, or the first fault and its place.
use Rattle.std.specs.Prelude.{ℕ, ◌+◌, List, [], ◌∷◌, ◌++◌, Bool, true, false, cond, ◌&&◌, not, ltb, leb, eqb, length}
use Rattle.record.specs.declared.faults.FaultKind.{FaultKind}
use Rattle.record.specs.declared.faults.FaultKind.TheVariants.{Cut, OtherTag, OtherLength, UnsoundNumber, Extra}
use Rattle.record.specs.Numbers.{number_at}
use Rattle.record.specs.Fields.{Body, missing, body, Field, total}

-- where reading stands: at a byte with what was read before, or stopped by a fault at its place
pub data Walk : Type 0 where
  going : ℕ → List Body → Walk
  stopped : FaultKind → ℕ → Walk

-- what stands at a byte where a field of the table may stand
pub data Look : Type 0 where
  here away : Look
  fault : FaultKind → ℕ → Look

-- The place is the input's length for a cut, else the field's first byte. A field that need not be
-- there is away where nothing is left, or where another tag stands and a further field may come.
unfoldable pub look : List ℕ → ℕ → ℕ → ℕ → Bool → Bool → Look
look bytes at tag size must last =
    cond (not must && leb (length bytes) at) away
    (cond (ltb (length bytes) (at + 3)) (fault Cut (length bytes))
    (cond (not (eqb (number_at bytes at 1) tag)) (cond (not must && not last) away (fault OtherTag at))
    (cond (not (eqb (number_at bytes (at + 1) 2) size)) (fault OtherLength at)
    (cond (ltb (length bytes) (at + 3 + size)) (fault Cut (length bytes)) here))))

-- the numbers of these sizes, one after the other
abbrev pub numbers_at : List ℕ → ℕ → List ℕ → List ℕ
numbers_at bytes at [] = []
numbers_at bytes at (size ∷ sizes) = number_at bytes at size ∷ numbers_at bytes (at + size) sizes

-- a field that is there is read if its numbers are sound with what was read before
unfoldable pub taken : List ℕ → Field → ℕ → List Body → Look → Walk
taken bytes f at before here =
    cond (f.sound before (numbers_at bytes (at + 3) f.sizes))
    (going (at + 3 + total f.sizes) (before ++ (body (numbers_at bytes (at + 3) f.sizes) ∷ [])))
    (stopped UnsoundNumber at)
taken bytes f at before away = going at (before ++ (missing ∷ []))
taken bytes f at before (fault kind place) = stopped kind place

-- one line of the table; a fault stays
unfoldable pub step : List ℕ → Field → Bool → Walk → Walk
step bytes f last (going at before) = taken bytes f at before (look bytes at f.tag (total f.sizes) f.must last)
step bytes f last (stopped kind place) = stopped kind place

-- no byte stands after the last field
unfoldable pub ended : List ℕ → Walk → Walk
ended bytes (going at bodies) = cond (eqb at (length bytes)) (going at bodies) (stopped Extra at)
ended bytes (stopped kind place) = stopped kind place

abbrev pub none : List Field → Bool
none [] = true
none (f ∷ fs) = false

unfoldable pub walk_from : List ℕ → List Field → Walk → Walk
walk_from bytes [] w = ended bytes w
walk_from bytes (f ∷ fs) w = walk_from bytes fs (step bytes f (none fs) w)

abbrev pub walk : List Field → List ℕ → Walk
walk table bytes = walk_from bytes table (going 0 [])
