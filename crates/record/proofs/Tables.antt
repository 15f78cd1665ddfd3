-- What tags can be told apart: the condition is needed, and nothing is asked of their order. Assumes
-- nothing.
use mathlib.Core.Path.{◌≡◌, refl}
use mathlib.Core.List.{[], ◌∷◌}
use mathlib.Core.Bool.{true, false}
use Rattle.record.specs.Numbers.{big, number_at}
use Rattle.record.specs.Fields.{missing, body, Field, required, optional, bytes_of, clear}
use Rattle.record.specs.Walk.{going, look, taken, step, ended, walk_from, walk}

abbrev may : Field
may = optional 5 (1 ∷ []) (λ before n. true)

abbrev must : Field
must = required 5 (1 ∷ []) (λ before n. true)

-- a field that may be missing, and another of its tag: the second is read as the first
pub not_clear : clear (may ∷ may ∷ []) ≡ false
not_clear = refl

pub reads_otherwise : walk (may ∷ may ∷ []) (bytes_of (may ∷ may ∷ []) (missing ∷ body (9 ∷ []) ∷ [])) ≡ going 4 (body (9 ∷ []) ∷ missing ∷ [])
unfolding bytes_of big number_at look taken step ended walk_from
reads_otherwise = refl

-- so too behind another that may be missing, but not behind one that must be there
pub past_a_may : clear (may ∷ optional 9 (1 ∷ []) (λ before n. true) ∷ may ∷ []) ≡ false
past_a_may = refl

pub past_a_must : clear (may ∷ required 9 (1 ∷ []) (λ before n. true) ∷ may ∷ []) ≡ true
past_a_must = refl

-- where the first must be there it is clear, and so is a table whose tags fall
pub first_must : clear (must ∷ may ∷ []) ≡ true
first_must = refl

pub falling : clear (required 9 (2 ∷ []) (λ before n. true) ∷ may ∷ optional 2 (4 ∷ []) (λ before n. true) ∷ required 1 (4 ∷ []) (λ before n. true) ∷ []) ≡ true
falling = refl
