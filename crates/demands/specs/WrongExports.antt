-- Wrong outcomes of what C and Rust call.
use Rattle.std.specs.Prelude.{ℕ, List, [], ◌∷◌, ◌++◌, set, take}
use Rattle.record.specs.Dateless.{record_of}
use Rattle.quynhabet.specs.Layout.{numbers_of, message_numbers}
use Rattle.quynhabet.specs.Exports.{Given, fresh_by, check_of, add_by, draw_by, receive_by, show_by, read_by, write_by}
use Rattle.demands.specs.Samples.{sevens}
use Rattle.demands.specs.Wrong.{Wrong, has_three, gave, asked, pays}

-- answer, result, rules, and the first six of what was lent to be changed
abbrev given_numbers : Given → List ℕ
given_numbers g = (g.told.answer ∷ g.told.result ∷ g.told.rules ∷ []) ++ take 6 g.lent

-- of a check: answer and result
abbrev checked : List ℕ → List ℕ
checked numbers = (check_of numbers).answer ∷ (check_of numbers).result ∷ []

-- the numbers of a station with value and intake 3
abbrev three : List ℕ
three = numbers_of has_three

abbrev pub wrong_exports : List Wrong
wrong_exports =
    -- qb_station_fresh: leaves what was lent; hands back every number 0 where it is refused
    record { promised = given_numbers (fresh_by 1 2 (sevens 134)); wrong = 0 ∷ 0 ∷ 0 ∷ 7 ∷ 7 ∷ 7 ∷ 7 ∷ 7 ∷ 7 ∷ [] }
    ∷ record { promised = given_numbers (fresh_by 2 2 (sevens 134)); wrong = 2 ∷ 0 ∷ 0 ∷ 0 ∷ 0 ∷ 0 ∷ 0 ∷ 0 ∷ 0 ∷ [] }
    -- qb_station_check: takes numbers in a slot that is not held; takes a value above the limit;
    -- refuses a sound station; tells the value
    ∷ record { promised = checked (set three 7 1); wrong = 0 ∷ 0 ∷ [] }
    ∷ record { promised = checked (set three 2 16000000001); wrong = 0 ∷ 0 ∷ [] }
    ∷ record { promised = checked three; wrong = 1 ∷ 0 ∷ [] }
    ∷ record { promised = checked three; wrong = 0 ∷ 3 ∷ [] }
    -- qb_station_add: leaves the intake; takes numbers in a slot that is not held
    ∷ record { promised = given_numbers (add_by 4 three); wrong = 0 ∷ 7 ∷ 0 ∷ 1 ∷ 2 ∷ 7 ∷ 3 ∷ 0 ∷ 0 ∷ [] }
    ∷ record { promised = given_numbers (add_by 4 (set three 7 1)); wrong = 0 ∷ 7 ∷ 0 ∷ 1 ∷ 2 ∷ 7 ∷ 7 ∷ 0 ∷ 0 ∷ [] }
    -- qb_station_draw: takes less than it tells; gives what is there where more is asked; takes
    -- that where it refuses; takes a clock that is too wide
    ∷ record { promised = given_numbers (draw_by 2 three); wrong = 0 ∷ 3 ∷ 0 ∷ 1 ∷ 2 ∷ 1 ∷ 3 ∷ 0 ∷ 0 ∷ [] }
    ∷ record { promised = given_numbers (draw_by 5 three); wrong = 0 ∷ 3 ∷ 0 ∷ 1 ∷ 2 ∷ 0 ∷ 3 ∷ 0 ∷ 0 ∷ [] }
    ∷ record { promised = given_numbers (draw_by 5 three); wrong = 15 ∷ 0 ∷ 0 ∷ 1 ∷ 2 ∷ 0 ∷ 3 ∷ 0 ∷ 0 ∷ [] }
    ∷ record { promised = given_numbers (draw_by 2 (set three 4 4294967296)); wrong = 0 ∷ 2 ∷ 0 ∷ 1 ∷ 2 ∷ 1 ∷ 3 ∷ 4294967296 ∷ 0 ∷ [] }
    -- qb_station_write: tells no length; has written where it refuses
    ∷ record { promised = given_numbers (show_by (numbers_of gave) 0 (sevens 49)); wrong = 0 ∷ 0 ∷ 0 ∷ 1 ∷ 0 ∷ 1 ∷ 1 ∷ 2 ∷ 0 ∷ [] }
    ∷ record { promised = given_numbers (show_by (numbers_of gave) 0 (sevens 48)); wrong = 14 ∷ 0 ∷ 0 ∷ 1 ∷ 7 ∷ 7 ∷ 7 ∷ 7 ∷ 7 ∷ [] }
    -- qb_station_receive: names no rule; fills a second time
    ∷ record { promised = given_numbers (receive_by (record_of pays) (numbers_of asked)); wrong = 0 ∷ 5 ∷ 0 ∷ 1 ∷ 2 ∷ 7 ∷ 0 ∷ 0 ∷ 1 ∷ [] }
    ∷ record {
      promised = given_numbers (receive_by (record_of pays) (receive_by (record_of pays) (numbers_of asked)).lent);
      wrong = 0 ∷ 5 ∷ 1 ∷ 1 ∷ 2 ∷ 12 ∷ 0 ∷ 0 ∷ 1 ∷ [];
    }
    -- qb_record_read: swaps the two clocks; clears what was lent where it refuses
    ∷ record { promised = given_numbers (read_by (record_of pays) (sevens 13)); wrong = 0 ∷ 49 ∷ 0 ∷ 0 ∷ 1 ∷ 3 ∷ 0 ∷ 1 ∷ 0 ∷ [] }
    ∷ record { promised = given_numbers (read_by [] (sevens 13)); wrong = 9 ∷ 0 ∷ 0 ∷ 0 ∷ 0 ∷ 0 ∷ 0 ∷ 0 ∷ 0 ∷ [] }
    -- qb_record_write: refuses a sound message; takes numbers in a slot that is not held
    ∷ record { promised = given_numbers (write_by (message_numbers pays) (sevens 50)); wrong = 9 ∷ 0 ∷ 0 ∷ 7 ∷ 7 ∷ 7 ∷ 7 ∷ 7 ∷ 7 ∷ [] }
    ∷ record { promised = given_numbers (write_by (set (message_numbers pays) 6 1) (sevens 50)); wrong = 0 ∷ 49 ∷ 0 ∷ 1 ∷ 0 ∷ 1 ∷ 0 ∷ 2 ∷ 0 ∷ [] }
    ∷ []
