-- For each public promise wrong outcomes that it rules out: what it promises at a sample, and what
-- a wrong build would give there.
use Rattle.std.specs.Prelude.{ℕ, Bool, true, false, ◌&&◌, not, List, [], ◌∷◌, ◌++◌, eqb, length, Option, Some, None}
use Rattle.rules.specs.declared.held.Token.{Token}
use Rattle.rules.specs.declared.held.Slot.{Slot}
use Rattle.ground.specs.Choice.{if_done}
use Rattle.station.specs.declared.station.Station.{Station}
use Rattle.rules.specs.declared.message.Message.{Message}
use Rattle.station.specs.declared.outcome.Outcome.{Outcome}
use Rattle.rules.specs.Report.{no_report}
use Rattle.rules.specs.Rules.{agree}
use Rattle.station.specs.Side.{put_side}
use Rattle.station.specs.Sound.{count_sound, station_sound, message_sound, slot_sound, token_sound}
use Rattle.rules.specs.Message.{no_message}
use Rattle.station.specs.Steps.{blank, put_stock, fresh_of, add_of, draw_of, show_of, receive_of, message_for}
use Rattle.record.specs.Dateless.{record_of}
use Rattle.record.specs.Reading.{read_of}
use Rattle.record.specs.Writing.{in_front, write_answer}
use Rattle.record.specs.AtStation.{write_for_answer, receive_bytes_of}
use Rattle.demands.specs.Samples.{station1, from0, slot, token, rules_acted, shown_numbers, outcome_numbers, truth, sevens}

pub record Wrong : Type 0 where
  pub promised : List ℕ
  pub wrong : List ℕ

abbrev same_numbers : List ℕ → List ℕ → Bool
same_numbers [] [] = true
same_numbers [] (y ∷ ys) = false
same_numbers (x ∷ xs) [] = false
same_numbers (x ∷ xs) (y ∷ ys) = eqb x y && same_numbers xs ys

abbrev pub ruled_out : List Wrong → Bool
ruled_out [] = true
ruled_out (w ∷ ws) = not (same_numbers w.promised w.wrong) && ruled_out ws

abbrev flat : List (List ℕ) → List ℕ
flat [] = []
flat (x ∷ xs) = x ++ flat xs

abbrev seat_of : Outcome → List ℕ
seat_of r = r.answer ∷ r.result ∷ r.station.number ∷ r.station.count ∷ []

abbrev stock_of : Outcome → List ℕ
stock_of r = r.answer ∷ r.result ∷ r.station.value ∷ r.station.intake ∷ []

abbrev answer_and_message : ℕ → Message → List ℕ
answer_and_message n m = n ∷ shown_numbers m

-- station 1 of 2 with value 3 and intake 3; with a token for station 0; with a slot for station 0
abbrev pub has_three : Station
has_three = put_stock (blank 1 2) 3 3

abbrev pub gave : Station
gave = station1 3 1 0 None (token 0 0 5)

abbrev pub asked : Station
asked = station1 2 0 1 (slot 0 0 5) None

-- a message with a token for that slot, and what it does when it is delivered again
abbrev pub pays : Message
pays = from0 3 1 0 None (token 0 0 5)

-- answer, result, then the buffer
abbrev wrote : ℕ → List ℕ → List ℕ → List ℕ
wrote answer bytes before = (answer ∷ if_done answer (length bytes) 0 ∷ []) ++ if_done answer (in_front bytes before) before

abbrev meet : Option Token → Option Slot → Bool
meet (Some t) (Some l) = agree t l
meet (Some t) None = false
meet None h = false

abbrev pub wrongs : List Wrong
wrongs =
    -- fresh: hands back station 0 whatever was asked; takes a count of 17
    record { promised = seat_of (fresh_of 1 2); wrong = 0 ∷ 0 ∷ 0 ∷ 2 ∷ [] }
    ∷ record { promised = seat_of (fresh_of 1 17); wrong = 0 ∷ 0 ∷ 1 ∷ 17 ∷ [] }
    -- add: tells the amount and not the new value; leaves the intake
    ∷ record { promised = stock_of (add_of has_three 4); wrong = 0 ∷ 4 ∷ 7 ∷ 7 ∷ [] }
    ∷ record { promised = stock_of (add_of has_three 4); wrong = 0 ∷ 7 ∷ 7 ∷ 3 ∷ [] }
    -- draw: takes less than it tells; gives what is there where more is asked; takes that where it
    -- refuses
    ∷ record { promised = stock_of (draw_of has_three 2); wrong = 0 ∷ 3 ∷ 1 ∷ 3 ∷ [] }
    ∷ record { promised = stock_of (draw_of has_three 5); wrong = 0 ∷ 3 ∷ 0 ∷ 3 ∷ [] }
    ∷ record { promised = stock_of (draw_of has_three 5); wrong = 15 ∷ 0 ∷ 0 ∷ 3 ∷ [] }
    -- message_for: hides the token; has a message for itself
    ∷ record { promised = answer_and_message (show_of gave 0).answer (show_of gave 0).message; wrong = 0 ∷ 1 ∷ 0 ∷ 3 ∷ 1 ∷ 0 ∷ [] }
    ∷ record { promised = answer_and_message (show_of gave 1).answer (show_of gave 1).message; wrong = 0 ∷ 1 ∷ 1 ∷ 3 ∷ 1 ∷ 0 ∷ [] }
    -- no_message: shows a value; is for another station than it is from
    ∷ record { promised = answer_and_message 0 no_message; wrong = 0 ∷ 0 ∷ 0 ∷ 1 ∷ 0 ∷ 0 ∷ [] }
    ∷ record { promised = answer_and_message 0 no_message; wrong = 0 ∷ 0 ∷ 1 ∷ 0 ∷ 0 ∷ 0 ∷ [] }
    -- message_is_sound: refuses a token of 0; takes a slot of 0
    ∷ record { promised = truth (message_sound (from0 3 1 0 None (token 0 0 0))); wrong = 0 ∷ [] }
    ∷ record { promised = truth (message_sound (from0 3 0 1 (slot 0 0 0) None)); wrong = 1 ∷ [] }
    -- slot_is_sound: takes a destination clock that is not below; refuses a quantity of 1
    ∷ record { promised = truth (slot_sound (slot 0 1 1) (record { 0 = 1 })); wrong = 1 ∷ [] }
    ∷ record { promised = truth (slot_sound (slot 7 0 1) (record { 0 = 1 })); wrong = 0 ∷ [] }
    -- token_is_sound: takes a source clock that is not below; takes 16,000,000,001
    ∷ record { promised = truth (token_sound (token 1 0 1) (record { 0 = 1 })); wrong = 1 ∷ [] }
    ∷ record { promised = truth (token_sound (token 0 7 16000000001) (record { 0 = 1 })); wrong = 1 ∷ [] }
    -- receive: refuses everything; fills a second time
    ∷ record { promised = flat (outcome_numbers (receive_of asked pays)); wrong = 11 ∷ 0 ∷ 0 ∷ 0 ∷ 2 ∷ 0 ∷ 1 ∷ 0 ∷ 0 ∷ 5 ∷ [] }
    ∷ record { promised = flat (outcome_numbers (receive_of (receive_of asked pays).station pays)); wrong = 0 ∷ 5 ∷ 1 ∷ 0 ∷ 0 ∷ 12 ∷ 0 ∷ 1 ∷ [] }
    -- read: swaps the two clocks; tells no length
    ∷ record { promised = let r = read_of (record_of pays) in r.result ∷ answer_and_message r.answer r.message; wrong = 49 ∷ 0 ∷ 0 ∷ 1 ∷ 3 ∷ 0 ∷ 1 ∷ 0 ∷ 0 ∷ 5 ∷ [] }
    ∷ record { promised = let r = read_of (record_of pays) in r.result ∷ answer_and_message r.answer r.message; wrong = 0 ∷ 0 ∷ 0 ∷ 1 ∷ 3 ∷ 1 ∷ 0 ∷ 0 ∷ 0 ∷ 5 ∷ [] }
    -- write: clears the byte past the record; writes into a buffer that is too short
    ∷ record {
      promised = wrote (write_answer pays 50) (record_of pays) (sevens 50);
      wrong = (0 ∷ 49 ∷ []) ++ record_of pays ++ (0 ∷ []);
    }
    ∷ record { promised = wrote (write_answer pays 48) (record_of pays) (sevens 48); wrong = (14 ∷ 0 ∷ 1 ∷ []) ++ sevens 47 }
    -- write_message: has a record for itself; tells no length
    ∷ record { promised = wrote (write_for_answer gave 1 50) (record_of (message_for gave 1)) []; wrong = 0 ∷ 49 ∷ [] }
    ∷ record {
      promised = wrote (write_for_answer gave 0 49) (record_of (message_for gave 0)) (sevens 49);
      wrong = (0 ∷ 0 ∷ []) ++ record_of (message_for gave 0);
    }
    -- receive_bytes: takes a record with a byte behind it; asks for a record before it asks for a
    -- sound station
    ∷ record { promised = flat (outcome_numbers (receive_bytes_of asked (record_of pays ++ (0 ∷ [])))); wrong = flat (outcome_numbers (receive_of asked pays)) }
    ∷ record { promised = stock_of (receive_bytes_of (blank 0 0) []); wrong = 9 ∷ 0 ∷ 0 ∷ 0 ∷ [] }
    -- station_is_sound: takes a station with a token for itself; refuses a value of 16,000,000,000
    ∷ record { promised = truth (station_sound (put_side (blank 1 2) 1 (record { value = 0; source = record { 0 = 1 }; destination = record { 0 = 0 }; slot = None; token = token 0 0 5 }))); wrong = 1 ∷ [] }
    ∷ record { promised = truth (station_sound (put_stock (blank 1 2) 16000000000 0)); wrong = 0 ∷ [] }
    -- count_is_sound: takes 1; refuses 16
    ∷ record { promised = truth (count_sound 1); wrong = 1 ∷ [] }
    ∷ record { promised = truth (count_sound 16); wrong = 0 ∷ [] }
    -- blank_station: swaps number and count; holds a pass
    ∷ record { promised = let s = blank 1 2 in s.number ∷ s.count ∷ s.value ∷ []; wrong = 2 ∷ 1 ∷ 0 ∷ [] }
    ∷ record { promised = let s = blank 1 2 in s.number ∷ s.count ∷ s.value ∷ []; wrong = 1 ∷ 2 ∷ 1 ∷ [] }
    -- no_report: names a rule; tells a quantity
    ∷ record { promised = rules_acted no_report ++ (no_report.opened ∷ no_report.made ∷ []); wrong = 5 ∷ 0 ∷ 0 ∷ [] }
    ∷ record { promised = rules_acted no_report ++ (no_report.opened ∷ no_report.made ∷ []); wrong = 0 ∷ 5 ∷ [] }
    -- clocks_agree: looks at one clock only, the source clock or the destination clock
    ∷ record { promised = truth (meet (token 0 0 5) (slot 0 1 5)); wrong = 1 ∷ [] }
    ∷ record { promised = truth (meet (token 0 0 5) (slot 1 0 5)); wrong = 1 ∷ [] }
    ∷ []
