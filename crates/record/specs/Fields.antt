-- A record is tagged fields. A family of records is a table of them, and nothing else.
use Rattle.std.specs.Prelude.{ℕ, ◌+◌, ◌^◌, ◌<◌, ◌≡◌, List, [], ◌∷◌, ◌++◌, Bool, true, false, ◌&&◌, ◌||◌, not, ltb, eqb, get_or}
use Rattle.record.specs.Numbers.{big}

-- what a record holds for one line of the table: nothing, or the numbers of that field's body
pub data Body : Type 0 where
  missing : Body
  body : List ℕ → Body

-- a line of the table: the tag, the sizes of the body's numbers, whether the field must be there,
-- and which numbers are sound with what was read before
pub record Field : Type 0 where
  pub tag : ℕ
  pub sizes : List ℕ
  pub must : Bool
  pub sound : List Body → List ℕ → Bool

abbrev pub required : ℕ → List ℕ → (List Body → List ℕ → Bool) → Field
required tag sizes sound = record { tag = tag; sizes = sizes; must = true; sound = sound }

abbrev pub optional : ℕ → List ℕ → (List Body → List ℕ → Bool) → Field
optional tag sizes sound = record { tag = tag; sizes = sizes; must = false; sound = sound }

-- a number of a body by its place from 0, the body of a line, and a number of that
abbrev pub nth : List ℕ → ℕ → ℕ
nth numbers j = get_or numbers j 0

abbrev pub body_numbers : Body → List ℕ
body_numbers missing = []
body_numbers (body numbers) = numbers

abbrev pub body_at : List Body → ℕ → Body
body_at bodies k = get_or bodies k missing

abbrev pub number_of : List Body → ℕ → ℕ → ℕ
number_of bodies k j = nth (body_numbers (body_at bodies k)) j

-- a body's length, and its bytes: its numbers one after the other
abbrev pub total : List ℕ → ℕ
total [] = 0
total (size ∷ sizes) = size + total sizes

abbrev pub body_of : List ℕ → List ℕ → List ℕ
body_of [] numbers = []
body_of (size ∷ sizes) [] = []
body_of (size ∷ sizes) (x ∷ numbers) = big size x ++ body_of sizes numbers

-- one byte of tag, two bytes of length, then the body
abbrev pub tagged : ℕ → List ℕ → List ℕ → List ℕ
tagged tag sizes numbers = big 1 tag ++ big 2 (total sizes) ++ body_of sizes numbers

abbrev pub field_of : Field → Body → List ℕ
field_of f missing = []
field_of f (body numbers) = tagged f.tag f.sizes numbers

-- a record: its fields in the table's order
unfoldable pub bytes_of : List Field → List Body → List ℕ
bytes_of [] bodies = []
bytes_of (f ∷ fs) [] = []
bytes_of (f ∷ fs) (b ∷ bodies) = field_of f b ++ bytes_of fs bodies

-- numbers that have these sizes
abbrev pub Fill : List ℕ → List ℕ → Type 0
Fill [] [] = Unit {0}
Fill [] (x ∷ numbers) = ⊥
Fill (size ∷ sizes) [] = ⊥
Fill (size ∷ sizes) (x ∷ numbers) = (x < 256 ^ size) × Fill sizes numbers

-- what a field may hold after what was read before
abbrev pub May : Field → List Body → Body → Type 0
May f before missing = f.must ≡ false
May f before (body numbers) = Fill f.sizes numbers × (f.sound before numbers ≡ true)

-- what a whole record may hold
abbrev pub Content : List Field → List Body → List Body → Type 0
Content [] before [] = Unit {0}
Content [] before (b ∷ bodies) = ⊥
Content (f ∷ fs) before [] = ⊥
Content (f ∷ fs) before (b ∷ bodies) = May f before b × Content fs (before ++ (b ∷ [])) bodies

-- a field of this tag may stand first
abbrev pub may_come : ℕ → List Field → Bool
may_come tag [] = false
may_come tag (f ∷ fs) = eqb tag f.tag || (not f.must && may_come tag fs)

-- tags and lengths fit their bytes, and a field that may be missing has another tag than whatever
-- may then stand in its place. The order of the tags plays no part.
abbrev pub clear : List Field → Bool
clear [] = true
clear (f ∷ fs) = (ltb f.tag 256 && ltb (total f.sizes) 65536) && (f.must || not (may_come f.tag fs)) && clear fs

-- no field has this tag
abbrev pub absent : ℕ → List Field → Bool
absent tag [] = true
absent tag (f ∷ fs) = not (eqb f.tag tag) && absent tag fs
