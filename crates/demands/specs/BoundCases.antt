-- Cases at the bounds: of each rule the clock or the number at which it no longer acts, of each
-- number its last allowed and its first that is not.
use Rattle.std.specs.Prelude.{ℕ, List, [], ◌∷◌, Some, None}
use Rattle.station.specs.declared.station.Station.{Station}
use Rattle.rules.specs.declared.message.Message.{Message}
use Rattle.station.specs.Side.{put_side}
use Rattle.station.specs.Steps.{blank, put_stock, add_of, draw_of, receive_of}
use Rattle.steps.specs.declared.asked.Step.TheVariants.{Deliver, Lose}
use Rattle.table.specs.declared.table.Table.{Table}
use Rattle.table.specs.Table.{put_station, put_place}
use Rattle.table.specs.Sound.{table_sound}
use Rattle.table.specs.Fresh.{fresh_table_of}
use Rattle.steps.specs.Steps.{step_of}
use Rattle.table.specs.Way.{on_the_way}
use Rattle.demands.specs.Samples.{station1, station_holding, bare_message, from0, slot, token, outcome_numbers, truth, sound_stations, sound_messages}
use Rattle.demands.specs.Cases.{Case}

-- a message delivered to station 1
abbrev delivery_numbers : Station → Message → List (List ℕ)
delivery_numbers s m = outcome_numbers (receive_of s m)

-- a station that holds this and fills a slot of 5, or adds
abbrev fill_numbers : ℕ → List ℕ
fill_numbers value = let r = receive_of (station1 value 0 1 (slot 0 0 5) None) (from0 0 1 0 None (token 0 0 5)) in r.answer ∷ r.result ∷ r.station.value ∷ []

abbrev add_numbers : ℕ → ℕ → List ℕ
add_numbers value amount = let r = add_of (put_stock (blank 1 2) value 0) amount in r.answer ∷ r.result ∷ []

-- a station that holds 16,000,000,000, and draws
abbrev draw_numbers : ℕ → List ℕ
draw_numbers amount = let r = draw_of (put_stock (blank 1 2) 16000000000 0) amount in r.answer ∷ r.result ∷ []

-- whether each of two is sound
abbrev sound_tables : Table → Table → List (List ℕ)
sound_tables right wrong = truth (table_sound right) ∷ truth (table_sound wrong) ∷ []

abbrev only_the_first : List (List ℕ)
only_the_first = (1 ∷ []) ∷ (0 ∷ []) ∷ []

-- two stations, and what stands in place of one of them, or waits at a place
abbrev table_with_station : Station → Table
table_with_station s = put_station (fresh_table_of 2).table 1 s

abbrev table_with_message : ℕ → Message → Table
table_with_message p m = put_place (fresh_table_of 2).table p (Some m)

abbrev pub bound_cases : List Case
bound_cases =
    -- rule 2: the message's source clock is the slot's, and the slot stays
    record {
      gives = delivery_numbers (station1 4 0 1 (slot 1 0 5) None) (from0 4 1 0 None None);
      wanted = (0 ∷ 0 ∷ []) ∷ [] ∷ (0 ∷ 0 ∷ []) ∷ (4 ∷ 0 ∷ 1 ∷ []) ∷ (1 ∷ 0 ∷ 5 ∷ []) ∷ [] ∷ [];
    }
    -- rule 3: values 2 and 0, a slot of 1
    ∷ record {
      gives = delivery_numbers (station1 0 0 0 None None) (from0 2 0 0 None None);
      wanted = (0 ∷ 0 ∷ []) ∷ (3 ∷ []) ∷ (1 ∷ 0 ∷ []) ∷ (0 ∷ 0 ∷ 1 ∷ []) ∷ (0 ∷ 0 ∷ 1 ∷ []) ∷ [] ∷ [];
    }
    -- rule 3: the destination clock one before its end, the source clock at its end; and the
    -- destination clock at its end
    ∷ record {
      gives = delivery_numbers (station1 0 4294967295 4294967294 None None) (from0 10 7 0 None None);
      wanted = (0 ∷ 0 ∷ []) ∷ (3 ∷ []) ∷ (5 ∷ 0 ∷ []) ∷ (0 ∷ 4294967295 ∷ 4294967295 ∷ []) ∷ (7 ∷ 4294967294 ∷ 5 ∷ []) ∷ [] ∷ [];
    }
    ∷ record {
      gives = delivery_numbers (station1 0 0 4294967295 None None) (from0 10 7 0 None None);
      wanted = (0 ∷ 0 ∷ []) ∷ [] ∷ (0 ∷ 0 ∷ []) ∷ (0 ∷ 0 ∷ 4294967295 ∷ []) ∷ [] ∷ [] ∷ [];
    }
    -- rule 4, no slot: the message's destination clock is the token's, its source clock above, and
    -- the token stays; a destination clock one above, and it goes
    ∷ record {
      gives = delivery_numbers (station1 0 1 0 None (token 0 2 5)) (from0 0 3 2 None None);
      wanted = (0 ∷ 0 ∷ []) ∷ [] ∷ (0 ∷ 0 ∷ []) ∷ (0 ∷ 1 ∷ 0 ∷ []) ∷ [] ∷ (0 ∷ 2 ∷ 5 ∷ []) ∷ [];
    }
    ∷ record {
      gives = delivery_numbers (station1 0 1 0 None (token 0 2 5)) (from0 0 0 3 None None);
      wanted = (0 ∷ 0 ∷ []) ∷ (4 ∷ []) ∷ (0 ∷ 0 ∷ []) ∷ (0 ∷ 1 ∷ 0 ∷ []) ∷ [] ∷ [] ∷ [];
    }
    -- rule 4: the destination clock of the message's slot is the token's, the slot's source clock
    -- and the message's clocks above, and the token stays; the slot's destination clock one above,
    -- and it goes
    ∷ record {
      gives = delivery_numbers (station1 0 1 0 None (token 0 2 5)) (from0 0 9 9 (slot 8 2 1) None);
      wanted = (0 ∷ 0 ∷ []) ∷ [] ∷ (0 ∷ 0 ∷ []) ∷ (0 ∷ 1 ∷ 0 ∷ []) ∷ [] ∷ (0 ∷ 2 ∷ 5 ∷ []) ∷ [];
    }
    ∷ record {
      gives = delivery_numbers (station1 0 1 0 None (token 0 2 5)) (from0 0 0 9 (slot 0 3 1) None);
      wanted = (0 ∷ 0 ∷ []) ∷ (4 ∷ []) ∷ (0 ∷ 0 ∷ []) ∷ (0 ∷ 1 ∷ 0 ∷ []) ∷ [] ∷ [] ∷ [];
    }
    -- rule 5: the source clock one before its end, with the slot's clocks in the token, which
    -- replaces the one that stood there; and at its end
    ∷ record {
      gives = delivery_numbers (station1 9 4294967294 3 None (token 0 8 1)) (from0 0 0 9 (slot 4294967294 8 5) None);
      wanted = (0 ∷ 0 ∷ []) ∷ (5 ∷ []) ∷ (0 ∷ 5 ∷ []) ∷ (4 ∷ 4294967295 ∷ 3 ∷ []) ∷ [] ∷ (4294967294 ∷ 8 ∷ 5 ∷ []) ∷ [];
    }
    ∷ record {
      gives = delivery_numbers (station1 9 4294967295 3 None None) (from0 0 0 9 (slot 4294967295 8 5) None);
      wanted = (0 ∷ 0 ∷ []) ∷ [] ∷ (0 ∷ 0 ∷ []) ∷ (9 ∷ 4294967295 ∷ 3 ∷ []) ∷ [] ∷ [] ∷ [];
    }
    -- amounts 0, 1,000,000,000 and one more: 4, done, 4
    ∷ record {
      gives = add_numbers 0 0 ∷ add_numbers 0 1000000000 ∷ add_numbers 0 1000000001 ∷ [];
      wanted = (4 ∷ 0 ∷ []) ∷ (0 ∷ 1000000000 ∷ []) ∷ (4 ∷ 0 ∷ []) ∷ [];
    }
    ∷ record {
      gives = draw_numbers 0 ∷ draw_numbers 1000000000 ∷ draw_numbers 1000000001 ∷ [];
      wanted = (4 ∷ 0 ∷ []) ∷ (0 ∷ 1000000000 ∷ []) ∷ (4 ∷ 0 ∷ []) ∷ [];
    }
    -- an add that brings a value to 16,000,000,000, and one above: done, 10
    ∷ record { gives = add_numbers 15999999998 2 ∷ add_numbers 15999999998 3 ∷ []; wanted = (0 ∷ 16000000000 ∷ []) ∷ (10 ∷ 0 ∷ []) ∷ [] }
    -- a fill that does so: done, 10
    ∷ record { gives = fill_numbers 15999999995 ∷ fill_numbers 15999999996 ∷ []; wanted = (0 ∷ 5 ∷ 16000000000 ∷ []) ∷ (10 ∷ 0 ∷ 15999999996 ∷ []) ∷ [] }
    -- a station's value, intake and clocks at their ends and one above
    ∷ record { gives = sound_stations (put_stock (blank 1 2) 16000000000 0) (put_stock (blank 1 2) 16000000001 0); wanted = only_the_first }
    ∷ record { gives = sound_stations (put_stock (blank 1 2) 0 1000000000) (put_stock (blank 1 2) 0 1000000001); wanted = only_the_first }
    ∷ record { gives = sound_stations (station1 0 4294967295 0 None None) (station1 0 4294967296 0 None None); wanted = only_the_first }
    ∷ record { gives = sound_stations (station1 0 0 4294967295 None None) (station1 0 0 4294967296 None None); wanted = only_the_first }
    -- its number: the last below the count, and the count
    ∷ record { gives = sound_stations (blank 1 2) (blank 2 2); wanted = only_the_first }
    -- quantities of a slot and of a token at their end and one above
    ∷ record { gives = sound_stations (station1 0 0 1 (slot 0 0 16000000000) None) (station1 0 0 1 (slot 0 0 16000000001) None); wanted = only_the_first }
    ∷ record { gives = sound_stations (station1 0 1 0 None (token 0 0 16000000000)) (station1 0 1 0 None (token 0 0 16000000001)); wanted = only_the_first }
    -- the other clock of each: a slot's source clock and a token's destination clock
    ∷ record { gives = sound_stations (station1 0 0 1 (slot 4294967295 0 5) None) (station1 0 0 1 (slot 4294967296 0 5) None); wanted = only_the_first }
    ∷ record { gives = sound_stations (station1 0 1 0 None (token 0 4294967295 5)) (station1 0 1 0 None (token 0 4294967296 5)); wanted = only_the_first }
    -- a token for station 15 of 16, and of 15
    ∷ record { gives = sound_stations (station_holding 16 15 1 0 None (token 0 0 5)) (station_holding 15 15 1 0 None (token 0 0 5)); wanted = only_the_first }
    -- a message: from and to at most 15, and different; its value and clocks
    ∷ record { gives = sound_messages (bare_message 15 0) (bare_message 16 0); wanted = only_the_first }
    ∷ record { gives = sound_messages (bare_message 0 15) (bare_message 0 16); wanted = only_the_first }
    ∷ record { gives = sound_messages (bare_message 3 4) (bare_message 3 3); wanted = only_the_first }
    ∷ record { gives = sound_messages (from0 16000000000 0 0 None None) (from0 16000000001 0 0 None None); wanted = only_the_first }
    ∷ record { gives = sound_messages (from0 0 4294967295 0 None None) (from0 0 4294967296 0 None None); wanted = only_the_first }
    ∷ record { gives = sound_messages (from0 0 0 4294967295 None None) (from0 0 0 4294967296 None None); wanted = only_the_first }
    -- a table: a station with another's number, one with another count
    ∷ record { gives = sound_tables (table_with_station (blank 1 2)) (table_with_station (blank 0 2)); wanted = only_the_first }
    ∷ record { gives = sound_tables (table_with_station (blank 1 2)) (table_with_station (blank 1 3)); wanted = only_the_first }
    -- a message from, or for, a station at the count, also at the last place; one that is not sound
    ∷ record { gives = sound_tables (table_with_message 63 (bare_message 0 1)) (table_with_message 63 (bare_message 2 1)); wanted = only_the_first }
    ∷ record { gives = sound_tables (table_with_message 63 (bare_message 1 0)) (table_with_message 63 (bare_message 1 2)); wanted = only_the_first }
    ∷ record { gives = sound_tables (table_with_message 63 (bare_message 1 0)) (table_with_message 63 (bare_message 1 1)); wanted = only_the_first }
    -- the last place, which is empty, and the number past it: 8, 7
    ∷ record {
      gives = ((step_of (fresh_table_of 2).table (Deliver 63)).answer ∷ (step_of (fresh_table_of 2).table (Deliver 64)).answer ∷ [])
          ∷ ((step_of (fresh_table_of 2).table (Lose 63)).answer ∷ (step_of (fresh_table_of 2).table (Lose 64)).answer ∷ [])
          ∷ [];
      wanted = (8 ∷ 7 ∷ []) ∷ (8 ∷ 7 ∷ []) ∷ [];
    }
    -- a token of 5 with a slot for it at its destination is on the way, and not with a slot for it
    -- at its maker
    ∷ record {
      gives = (on_the_way
          (put_station (table_with_station (station1 0 1 0 None (token 0 0 5))) 0
          (put_side (blank 0 2) 1 (record { value = 0; source = record { 0 = 0 }; destination = record { 0 = 1 }; slot = slot 0 0 5; token = None }))) ∷ [])
          ∷ (on_the_way (table_with_station (station1 0 1 1 (slot 0 0 5) (token 0 0 5))) ∷ [])
          ∷ [];
      wanted = (5 ∷ []) ∷ (0 ∷ []) ∷ [];
    }
    ∷ []
