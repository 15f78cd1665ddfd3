-- What a test answers: nothing, or why it refuses; and the number of that answer.
use Rattle.std.specs.Prelude.{ℕ, Result, Ok, Err}
use Rattle.ground.specs.declared.refusal.Refusal.{Refusal}
use Rattle.ground.specs.declared.refusal.Refusal.TheVariants.{NotSound, NotBelowCount, SameStation, BadAmount, IntakeLimit, PoolFull, NoSuchPlace, EmptyPlace, NoRecord, ValueLimit, ForAnother, BadLine, LongScript, ShortBuffer, TooFew}
use Rattle.ground.specs.Answers.{done, not_sound, not_below_count, same_station, bad_amount, intake_limit, pool_full, no_such_place, empty_place, no_record, value_limit, for_another, bad_line, long_script, short_buffer, too_few}

abbrev pub number_of : Refusal → ℕ
number_of NotSound = not_sound
number_of NotBelowCount = not_below_count
number_of SameStation = same_station
number_of BadAmount = bad_amount
number_of IntakeLimit = intake_limit
number_of PoolFull = pool_full
number_of NoSuchPlace = no_such_place
number_of EmptyPlace = empty_place
number_of NoRecord = no_record
number_of ValueLimit = value_limit
number_of ForAnother = for_another
number_of BadLine = bad_line
number_of LongScript = long_script
number_of ShortBuffer = short_buffer
number_of TooFew = too_few

-- the answer is 0 where the test passes
abbrev pub tested : {A : Type 0} → Result A Refusal → ℕ
tested (Ok x) = done
tested (Err r) = number_of r
