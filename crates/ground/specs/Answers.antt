-- The numbered answers.
use Rattle.std.specs.Prelude.{ℕ}

abbrev pub done : ℕ
done = 0

-- the station lent is not sound, or a count is not 2 to 16
abbrev pub not_sound : ℕ
not_sound = 1

-- a station number, or the from or to of what is received, is not below the count
abbrev pub not_below_count : ℕ
not_below_count = 2

-- sender and receiver are the same
abbrev pub same_station : ℕ
same_station = 3

-- an amount is 0 or above 1,000,000,000
abbrev pub bad_amount : ℕ
bad_amount = 4

-- the intake would pass its limit
abbrev pub intake_limit : ℕ
intake_limit = 5

-- all 64 places are taken
abbrev pub pool_full : ℕ
pool_full = 6

-- a place number is above 63
abbrev pub no_such_place : ℕ
no_such_place = 7

-- a place is empty
abbrev pub empty_place : ℕ
empty_place = 8

-- bytes are no record, or a message is not sound
abbrev pub no_record : ℕ
no_record = 9

-- an add, or a fill by rule 1, would bring a value above 16,000,000,000
abbrev pub value_limit : ℕ
value_limit = 10

-- what is received is for another station
abbrev pub for_another : ℕ
for_another = 11

-- a script line can't be read
abbrev pub bad_line : ℕ
bad_line = 12

-- the script is longer than 65,536 bytes
abbrev pub long_script : ℕ
long_script = 13

-- the output buffer is shorter than the record
abbrev pub short_buffer : ℕ
short_buffer = 14

-- fewer passes can be drawn than asked
abbrev pub too_few : ℕ
too_few = 15
