-- The limits of document 01's numbers.
use Rattle.std.specs.Prelude.{ℕ}

-- a table has 2 to 16 stations
abbrev pub least_stations : ℕ
least_stations = 2

abbrev pub most_stations : ℕ
most_stations = 16

-- an added or drawn amount is 1 to this
abbrev pub most_amount : ℕ
most_amount = 1000000000

-- all that a station ever added
abbrev pub most_intake : ℕ
most_intake = 1000000000

-- a value or a quantity
abbrev pub most_value : ℕ
most_value = 16000000000

-- the end of a clock
abbrev pub last_clock : ℕ
last_clock = 4294967295
