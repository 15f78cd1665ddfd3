-- A number printed in decimal digits, and the lines that are made of such numbers.
use Rattle.std.specs.Prelude.{ℕ, zero, suc, ◌+◌, ◌/◌, ◌%◌, cond, List, [], ◌∷◌, ◌++◌, ltb}

-- at most so many digits more than one
unfoldable pub digits_by : ℕ → ℕ → List ℕ
digits_by zero n = (48 + n % 10) ∷ []
digits_by (suc more) n = cond (ltb n 10) ((48 + n) ∷ []) (digits_by more (n / 10) ++ ((48 + n % 10) ∷ []))

-- a number of 64 bits has at most 20 digits
abbrev pub decimal : ℕ → List ℕ
decimal n = digits_by 19 n

-- three numbers on a line: a step's number, its answer, its result
abbrev pub step_line : ℕ → ℕ → ℕ → List ℕ
step_line number answer result = decimal number ++ (32 ∷ []) ++ decimal answer ++ (32 ∷ []) ++ decimal result ++ (10 ∷ [])

-- `station `
abbrev pub station_word : List ℕ
station_word = 115 ∷ 116 ∷ 97 ∷ 116 ∷ 105 ∷ 111 ∷ 110 ∷ 32 ∷ []

-- ` value `
abbrev pub value_word : List ℕ
value_word = 32 ∷ 118 ∷ 97 ∷ 108 ∷ 117 ∷ 101 ∷ 32 ∷ []

-- ` source `
abbrev pub source_word : List ℕ
source_word = 32 ∷ 115 ∷ 111 ∷ 117 ∷ 114 ∷ 99 ∷ 101 ∷ 32 ∷ []

-- ` destination `
abbrev pub destination_word : List ℕ
destination_word = 32 ∷ 100 ∷ 101 ∷ 115 ∷ 116 ∷ 105 ∷ 110 ∷ 97 ∷ 116 ∷ 105 ∷ 111 ∷ 110 ∷ 32 ∷ []

-- `on the way `
abbrev pub way_word : List ℕ
way_word = 111 ∷ 110 ∷ 32 ∷ 116 ∷ 104 ∷ 101 ∷ 32 ∷ 119 ∷ 97 ∷ 121 ∷ 32 ∷ []

-- `total `
abbrev pub total_word : List ℕ
total_word = 116 ∷ 111 ∷ 116 ∷ 97 ∷ 108 ∷ 32 ∷ []

-- a station's number, its value and its two clocks
abbrev pub station_line : ℕ → ℕ → ℕ → ℕ → List ℕ
station_line k value source destination =
    (station_word ++ decimal k) ++ (value_word ++ decimal value) ++ (source_word ++ decimal source) ++ (destination_word ++ decimal destination ++ (10 ∷ []))

-- the sum on the way
abbrev pub way_line : ℕ → List ℕ
way_line sum = way_word ++ decimal sum ++ (10 ∷ [])

-- the values of all stations and the sum on the way
abbrev pub total_line : ℕ → List ℕ
total_line total = total_word ++ decimal total ++ (10 ∷ [])
