-- Digits read one by one, and the words that are no number. Assumes nothing.
use Rattle.std.proofs.Common.{Some, None}
use Prim.Native.Nat.{ℕ, ◌+◌, ◌-◌, ◌*◌, ◌^◌, ◌≤◌, ◌<◌}
use mathlib.Core.Path.{◌≡◌, refl}
use mathlib.Core.Bool.{true, false, and-eq-true_iff, and-true, and-false}
use mathlib.Core.List.{List, [], ◌∷◌}
use mathlib.Core.Logic.{⊎_elim}
use native.Mathlib.Nat.{pow-suc, pow-le-pow_right, lt_of_lt_of_le}
use native.Mathlib.Numerals.{add-one}
use native.Mathlib.Omega.{arith}
use borrow.Author.Tests.{leb-true, le-leb, lt-leb, ne_eqb}
use lib.Dec.{leb, lit<}
use lib.ListN.{length, get_or, drop, drop_of_length-le}
use lib.Seq.{drop-cons}
use Rattle.ground.proofs.Tests.{below_or_not}
use Rattle.script.specs.Words.{is_digit, no_leading_zero, numeral_of}
use Rattle.script.specs.Parts.{digits_of}

pub digit_range : (b : ℕ) → is_digit b ≡ true → (48 ≤ b) × (b ≤ 57)
digit_range b e =
    let both = (and-eq-true_iff (leb 48 b) (leb b 57)).0 e in
    (leb-true 48 b both.0, leb-true b 57 both.1)

module _ (word : List ℕ) (k sofar : ℕ) where
  pub digits_on : k < length word → is_digit (get_or word k 0) ≡ true → digits_of sofar (drop k word) ≡ digits_of (sofar * 10 + (get_or word k 0 - 48)) (drop (k + 1) word)
  digits_on h e = rw (add-one k, drop-cons word k 0, e)

  pub digits_off : k < length word → is_digit (get_or word k 0) ≡ false → digits_of sofar (drop k word) ≡ None
  digits_off h e = rw (drop-cons word k 0, e)

  pub digits_ended : length word ≤ k → digits_of sofar (drop k word) ≡ Some sofar
  digits_ended h = rw (drop_of_length-le word h)

-- fewer than 10 digits leave room for one more
pub room : (k x : ℕ) → k < 10 → x < 10 ^ k → x < 10 ^ 9
room k x h l = lt_of_lt_of_le l (pow-le-pow_right {n = 10} (lit< tt) {i = k} {j = 9} (omega arith))

pub grown : (k x d : ℕ) → x < 10 ^ k → d < 10 → x * 10 + d < 10 ^ (k + 1)
grown k x d h l = rw (add-one k, pow-suc) (omega arith)

-- a zero in front, tested on a word's length and its first byte
zero_front : (word : List ℕ) → 1 < length word → get_or word 0 0 ≡ 48 → no_leading_zero word ≡ false
zero_front [] h e = absurd (omega arith)
zero_front (b ∷ []) h e = absurd (omega arith)
zero_front (b ∷ c ∷ bs) h e = rw e

no_zero_front : (word : List ℕ) → (1 < length word → get_or word 0 0 ≡ 48 → ⊥) → no_leading_zero word ≡ true
no_zero_front [] f = refl
no_zero_front (b ∷ []) f = refl
no_zero_front (b ∷ c ∷ bs) f = rw (ne_eqb b 48 (f (omega arith)))

module _ (word : List ℕ) where
  pub numeral_off : (1 ≤ length word → length word ≤ 10 → ⊥) → numeral_of word ≡ None
  unfolding numeral_of
  numeral_off f = ⊎_elim (λ (h : length word < 1). rw (lt-leb 1 (length word) h)) (λ (h : 1 ≤ length word). rw (lt-leb (length word) 10 (omega (arith, f h)), and-false)) (below_or_not (length word) 1)

  pub numeral_zero : 1 < length word → get_or word 0 0 ≡ 48 → numeral_of word ≡ None
  unfolding numeral_of
  numeral_zero h e = rw (zero_front word h e, and-false)

  pub numeral_digits : 1 ≤ length word → length word ≤ 10 → (1 < length word → get_or word 0 0 ≡ 48 → ⊥) → numeral_of word ≡ digits_of 0 word
  unfolding numeral_of
  numeral_digits h l f = rw (le-leb 1 (length word) h, le-leb (length word) 10 l, no_zero_front word f, and-true)
