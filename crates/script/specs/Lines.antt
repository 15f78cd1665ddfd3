-- A line of a script: words with one space between.
use Rattle.std.specs.Prelude.{ℕ, cond, List, [], ◌∷◌, Option, Some, None}
use Rattle.steps.specs.declared.asked.Step.{Step}
use Rattle.steps.specs.declared.asked.Step.TheVariants.{Add, Draw, Send, Deliver, Lose}
use Rattle.script.specs.Words.{up_to, past, numeral_of, same_bytes}

-- the words of the language, in bytes
abbrev pub word_stations : List ℕ
word_stations = 115 ∷ 116 ∷ 97 ∷ 116 ∷ 105 ∷ 111 ∷ 110 ∷ 115 ∷ []

abbrev pub word_add : List ℕ
word_add = 97 ∷ 100 ∷ 100 ∷ []

abbrev pub word_draw : List ℕ
word_draw = 100 ∷ 114 ∷ 97 ∷ 119 ∷ []

abbrev pub word_send : List ℕ
word_send = 115 ∷ 101 ∷ 110 ∷ 100 ∷ []

abbrev pub word_deliver : List ℕ
word_deliver = 100 ∷ 101 ∷ 108 ∷ 105 ∷ 118 ∷ 101 ∷ 114 ∷ []

abbrev pub word_lose : List ℕ
word_lose = 108 ∷ 111 ∷ 115 ∷ 101 ∷ []

-- a step of one number, and of two
abbrev pub with_one : (ℕ → Step) → Option ℕ → Option Step
with_one step None = None
with_one step (Some n) = Some (step n)

abbrev pub with_two : (ℕ → ℕ → Step) → Option ℕ → Option ℕ → Option Step
with_two step None k = None
with_two step (Some n) None = None
with_two step (Some n) (Some k) = Some (step n k)

abbrev pub two_numbers : (ℕ → ℕ → Step) → List ℕ → Option Step
two_numbers step rest = with_two step (numeral_of (up_to 32 rest)) (numeral_of (past 32 rest))

-- `add S A`, `draw S A`, `send S T`, `deliver P`, `lose P`
abbrev pub line_by : List ℕ → List ℕ → Option Step
line_by word rest =
    cond (same_bytes word word_add) (two_numbers Add rest)
    (cond (same_bytes word word_draw) (two_numbers Draw rest)
    (cond (same_bytes word word_send) (two_numbers Send rest)
    (cond (same_bytes word word_deliver) (with_one Deliver (numeral_of rest))
    (cond (same_bytes word word_lose) (with_one Lose (numeral_of rest)) None))))

unfoldable pub line_of : List ℕ → Option Step
line_of line = line_by (up_to 32 line) (past 32 line)

-- `stations N`
unfoldable pub stations_of : List ℕ → Option ℕ
stations_of line = cond (same_bytes (up_to 32 line) word_stations) (numeral_of (past 32 line)) None
