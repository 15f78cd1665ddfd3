-- What a part of a line reads as: digits, and two numbers with a space between.
use Rattle.std.specs.Prelude.{ℕ, cond, List, Option, Some, None}
use Rattle.script.specs.Words.{all_digits, numeral_of, past, up_to, value_from}

-- digits of any count, after those read so far
abbrev pub digits_of : ℕ → List ℕ → Option ℕ
digits_of sofar word = cond (all_digits word) (Some (value_from sofar word)) None

abbrev pub pair_by : Option ℕ → Option ℕ → Option (ℕ × ℕ)
pair_by None k = None
pair_by (Some n) None = None
pair_by (Some n) (Some k) = Some (n, k)

abbrev pub pair_of : List ℕ → Option (ℕ × ℕ)
pair_of words = pair_by (numeral_of (up_to 32 words)) (numeral_of (past 32 words))
