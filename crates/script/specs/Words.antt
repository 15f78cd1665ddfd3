-- Bytes cut at a byte, and a number in decimal digits.
use Rattle.std.specs.Prelude.{ℕ, suc, ◌+◌, ◌-◌, ◌*◌, Bool, true, false, cond, not, ◌&&◌, List, [], ◌∷◌, eqb, leb, length, take, drop, Option, Some, None}

-- where a byte stands first; the length where it does not
abbrev pub index_of : ℕ → List ℕ → ℕ
index_of byte [] = 0
index_of byte (x ∷ xs) = cond (eqb x byte) 0 (suc (index_of byte xs))

-- what stands before the first such byte, and what stands past it
abbrev pub up_to : ℕ → List ℕ → List ℕ
up_to byte bytes = take (index_of byte bytes) bytes

abbrev pub past : ℕ → List ℕ → List ℕ
past byte bytes = drop (index_of byte bytes + 1) bytes

abbrev pub is_digit : ℕ → Bool
is_digit b = leb 48 b && leb b 57

abbrev pub all_digits : List ℕ → Bool
all_digits [] = true
all_digits (b ∷ bs) = is_digit b && all_digits bs

-- the number that digits stand for, after the digits read so far
abbrev pub value_from : ℕ → List ℕ → ℕ
value_from sofar [] = sofar
value_from sofar (b ∷ bs) = value_from (sofar * 10 + (b - 48)) bs

-- a zero may stand alone, and not in front
abbrev pub no_leading_zero : List ℕ → Bool
no_leading_zero [] = true
no_leading_zero (b ∷ []) = true
no_leading_zero (b ∷ c ∷ bs) = not (eqb b 48)

-- 1 to 10 digits without a leading zero
abbrev pub is_numeral : List ℕ → Bool
is_numeral word = leb 1 (length word) && leb (length word) 10 && all_digits word && no_leading_zero word

unfoldable pub numeral_of : List ℕ → Option ℕ
numeral_of word = cond (is_numeral word) (Some (value_from 0 word)) None

-- the same bytes
abbrev pub same_bytes : List ℕ → List ℕ → Bool
same_bytes [] [] = true
same_bytes [] (y ∷ ys) = false
same_bytes (x ∷ xs) [] = false
same_bytes (x ∷ xs) (y ∷ ys) = eqb x y && same_bytes xs ys
