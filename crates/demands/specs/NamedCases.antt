-- Cases for one condition each, where a condition that is a little off would give another number: a
-- bound that is met, the other clock, an answer in another's place, a byte.
use Rattle.std.specs.Prelude.{ℕ, List, [], ◌∷◌, ◌++◌, map, Option, None}
use Rattle.rules.specs.declared.held.Token.{Token}
use Rattle.rules.specs.declared.held.Slot.{Slot}
use Rattle.rules.specs.declared.message.Message.{Message}
use Rattle.station.specs.Steps.{blank, receive_of}
use Rattle.record.specs.Dateless.{record_of}
use Rattle.record.specs.Reading.{read_of}
use Rattle.record.specs.AtStation.{receive_bytes_of}
use Rattle.steps.specs.declared.asked.Step.{Step}
use Rattle.steps.specs.declared.asked.Step.TheVariants.{Send, Lose}
use Rattle.table.specs.Fresh.{fresh_table_of}
use Rattle.steps.specs.Steps.{step_of}
use Rattle.runs.specs.Runs.{Line, log_of}
use Rattle.demands.specs.Samples.{station1, station_holding, bare_message, from0, slot, token, shown_numbers, outcome_numbers, sound_stations, sound_messages}
use Rattle.demands.specs.Cases.{Case}

-- the answers of station 1 of 3 to a message, and to its record
abbrev answers_to : Message → List ℕ
answers_to m = (receive_of (blank 1 3) m).answer ∷ (receive_bytes_of (blank 1 3) (record_of m)).answer ∷ []

-- a message of which no two numbers share a byte
abbrev written : Option Slot → Option Token → Message
written l t =
    record {
      from = 2;
      to = 9;
      value = 4328719365;
      source = record { 0 = 286397204 };
      destination = record { 0 = 555885348 };
      slot = l;
      token = t;
    }

abbrev a_slot : Option Slot
a_slot = slot 825373492 437984285 8640529670

abbrev a_token : Option Token
a_token = token 168496141 1094861636 12986025993

-- its bytes: fields 1 to 4, its slot, its token
abbrev a_front_bytes : List ℕ
a_front_bytes =
    1 ∷ 0 ∷ 1 ∷ 2 ∷ 2 ∷ 0 ∷ 1 ∷ 9 ∷ 3 ∷ 0 ∷ 8 ∷ 0 ∷ 0 ∷ 0 ∷ 1 ∷ 2 ∷ 3 ∷ 4 ∷ 5 ∷ 4 ∷ 0 ∷ 8 ∷ 17 ∷ 18 ∷ 19 ∷ 20 ∷ 33 ∷ 34 ∷ 35 ∷ 36 ∷ []

abbrev a_slot_bytes : List ℕ
a_slot_bytes = 5 ∷ 0 ∷ 16 ∷ 49 ∷ 50 ∷ 51 ∷ 52 ∷ 26 ∷ 27 ∷ 28 ∷ 29 ∷ 0 ∷ 0 ∷ 0 ∷ 2 ∷ 3 ∷ 4 ∷ 5 ∷ 6 ∷ []

abbrev a_token_bytes : List ℕ
a_token_bytes = 6 ∷ 0 ∷ 16 ∷ 10 ∷ 11 ∷ 12 ∷ 13 ∷ 65 ∷ 66 ∷ 67 ∷ 68 ∷ 0 ∷ 0 ∷ 0 ∷ 3 ∷ 6 ∷ 7 ∷ 8 ∷ 9 ∷ []

-- what bytes are read as
abbrev read_as : List ℕ → List ℕ
read_as bytes = let r = read_of bytes in r.answer ∷ r.result ∷ shown_numbers r.message

-- of two, the one with something wrong, and the same with that put right
abbrev only_the_second : List (List ℕ)
only_the_second = (0 ∷ []) ∷ (1 ∷ []) ∷ []

-- the result of each step of a run of two stations
abbrev results_of : List Step → List ℕ
results_of steps = map (λ (x : Line). x.result) (log_of step_of (fresh_table_of 2).table steps)

abbrev pub named_cases : List Case
named_cases =
    -- value 2, slot of 5, a message with value 13 and the token of 5: filled to 7, and a slot of 3
    -- opened, not of 5
    record {
      gives = outcome_numbers (receive_of (station1 2 0 1 (slot 0 0 5) None) (from0 13 1 0 None (token 0 0 5)));
      wanted = (0 ∷ 5 ∷ []) ∷ (1 ∷ 3 ∷ []) ∷ (3 ∷ 0 ∷ []) ∷ (7 ∷ 0 ∷ 2 ∷ []) ∷ (1 ∷ 1 ∷ 3 ∷ []) ∷ [] ∷ [];
    }
    -- for a station at the count, or above it, which is also for another station: 2; from one at
    -- the count and for another station: 2
    ∷ record {
      gives = answers_to (bare_message 0 3) ∷ answers_to (bare_message 0 15) ∷ answers_to (bare_message 3 0) ∷ [];
      wanted = (2 ∷ 2 ∷ []) ∷ (2 ∷ 2 ∷ []) ∷ (2 ∷ 2 ∷ []) ∷ [];
    }
    -- for another station of the table: 11; for this station, from one at the count: 2; for this
    -- station: done
    ∷ record {
      gives = answers_to (bare_message 0 2) ∷ answers_to (bare_message 3 1) ∷ answers_to (bare_message 2 1) ∷ [];
      wanted = (11 ∷ 11 ∷ []) ∷ (2 ∷ 2 ∷ []) ∷ (0 ∷ 0 ∷ []) ∷ [];
    }
    -- the 49 bytes of a record with a token, written and read
    ∷ record {
      gives = record_of (written None a_token) ∷ read_as (a_front_bytes ++ a_token_bytes) ∷ [];
      wanted = (a_front_bytes ++ a_token_bytes) ∷ (0 ∷ 49 ∷ shown_numbers (written None a_token)) ∷ [];
    }
    -- the 49 bytes of a record with a slot
    ∷ record {
      gives = record_of (written a_slot None) ∷ read_as (a_front_bytes ++ a_slot_bytes) ∷ [];
      wanted = (a_front_bytes ++ a_slot_bytes) ∷ (0 ∷ 49 ∷ shown_numbers (written a_slot None)) ∷ [];
    }
    -- the 68 bytes of a record with both
    ∷ record {
      gives = record_of (written a_slot a_token) ∷ read_as (a_front_bytes ++ a_slot_bytes ++ a_token_bytes) ∷ [];
      wanted = (a_front_bytes ++ a_slot_bytes ++ a_token_bytes) ∷ (0 ∷ 68 ∷ shown_numbers (written a_slot a_token)) ∷ [];
    }
    -- both, the token first: no record
    ∷ record {
      gives = read_as (a_front_bytes ++ a_token_bytes ++ a_slot_bytes) ∷ [];
      wanted = (9 ∷ 0 ∷ 0 ∷ 0 ∷ 0 ∷ 0 ∷ 0 ∷ []) ∷ [];
    }
    -- a slot whose destination clock is its holder's; one below it
    ∷ record { gives = sound_stations (station_holding 3 0 0 1 (slot 4 1 5) None) (station_holding 3 0 0 1 (slot 4 0 5) None); wanted = only_the_second }
    -- the same in a message
    ∷ record { gives = sound_messages (from0 0 0 1 (slot 4 1 5) None) (from0 0 0 1 (slot 4 0 5) None); wanted = only_the_second }
    -- a token whose source clock is its maker's; one below it
    ∷ record { gives = sound_stations (station_holding 3 0 1 0 None (token 1 4 5)) (station_holding 3 0 1 0 None (token 0 4 5)); wanted = only_the_second }
    -- the same in a message
    ∷ record { gives = sound_messages (from0 0 1 0 None (token 1 4 5)) (from0 0 1 0 None (token 0 4 5)); wanted = only_the_second }
    -- a slot for oneself; for another
    ∷ record { gives = sound_stations (station_holding 3 1 0 1 (slot 4 0 5) None) (station_holding 3 2 0 1 (slot 4 0 5) None); wanted = only_the_second }
    -- a token for oneself; for another
    ∷ record { gives = sound_stations (station_holding 3 1 1 0 None (token 0 4 5)) (station_holding 3 2 1 0 None (token 0 4 5)); wanted = only_the_second }
    -- a slot for the number past the count; with a count one more
    ∷ record { gives = sound_stations (station_holding 2 2 0 1 (slot 4 0 5) None) (station_holding 3 2 0 1 (slot 4 0 5) None); wanted = only_the_second }
    -- a token for the number past the count; with a count one more
    ∷ record { gives = sound_stations (station_holding 2 2 1 0 None (token 0 4 5)) (station_holding 3 2 1 0 None (token 0 4 5)); wanted = only_the_second }
    -- a slot of 0; of 1
    ∷ record { gives = sound_stations (station_holding 3 0 0 1 (slot 4 0 0) None) (station_holding 3 0 0 1 (slot 4 0 1) None); wanted = only_the_second }
    -- a slot past 16,000,000,000; a token of 0
    ∷ record {
      gives = sound_stations (station_holding 3 0 0 1 (slot 4 0 16000000001) None) (station_holding 3 0 1 0 None (token 0 4 0));
      wanted = only_the_second;
    }
    -- a place freed by a loss is used again, and then the one past the last taken
    ∷ record {
      gives = results_of (Send 0 1 ∷ Send 0 1 ∷ Send 0 1 ∷ Lose 1 ∷ Send 0 1 ∷ Send 0 1 ∷ []) ∷ [];
      wanted = (0 ∷ 1 ∷ 2 ∷ 0 ∷ 1 ∷ 3 ∷ []) ∷ [];
    }
    ∷ []
