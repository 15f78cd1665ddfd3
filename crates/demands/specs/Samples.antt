-- Stations and messages for the cases, and an outcome as lists of numbers.
use Rattle.std.specs.Prelude.{ℕ, Bool, true, false, List, [], ◌∷◌, ◌++◌, replicate, Option, Some, None}
use Rattle.rules.specs.declared.held.Token.{Token}
use Rattle.rules.specs.declared.held.Slot.{Slot}
use Rattle.station.specs.declared.station.Station.{Station}
use Rattle.rules.specs.declared.message.Message.{Message}
use Rattle.rules.specs.declared.report.Report.{Report}
use Rattle.station.specs.declared.outcome.Outcome.{Outcome}
use Rattle.station.specs.Held.{slot_for, token_for}
use Rattle.station.specs.Side.{put_side}
use Rattle.station.specs.Sound.{station_sound, message_sound}
use Rattle.station.specs.Steps.{blank}

-- station 1 of 2 with this value, clocks, and slot and token for station 0
abbrev pub station1 : ℕ → ℕ → ℕ → Option Slot → Option Token → Station
station1 value source destination slot token =
    put_side (blank 1 2) 0 (record { value = value; source = record { 0 = source }; destination = record { 0 = destination }; slot = slot; token = token })

-- station 1 of so many with these clocks, and slot and token for station k
abbrev pub station_holding : ℕ → ℕ → ℕ → ℕ → Option Slot → Option Token → Station
station_holding count k source destination slot token =
    put_side (blank 1 count) k (record { value = 0; source = record { 0 = source }; destination = record { 0 = destination }; slot = slot; token = token })

-- a message from a station to a station, with nothing else to it
abbrev pub bare_message : ℕ → ℕ → Message
bare_message from to = record { from = from; to = to; value = 0; source = record { 0 = 0 }; destination = record { 0 = 0 }; slot = None; token = None }

-- what station 0 of 2 shows station 1
abbrev pub from0 : ℕ → ℕ → ℕ → Option Slot → Option Token → Message
from0 value source destination slot token =
    record { from = 0; to = 1; value = value; source = record { 0 = source }; destination = record { 0 = destination }; slot = slot; token = token }

abbrev pub slot : ℕ → ℕ → ℕ → Option Slot
slot s d q = Some (record { source = record { 0 = s }; destination = record { 0 = d }; quantity = q })

abbrev pub token : ℕ → ℕ → ℕ → Option Token
token s d q = Some (record { source = record { 0 = s }; destination = record { 0 = d }; quantity = q })

-- a number if a rule acted
abbrev pub if_acted : Bool → ℕ → List ℕ
if_acted true n = n ∷ []
if_acted false n = []

abbrev pub rules_acted : Report → List ℕ
rules_acted r = if_acted r.rule1 1 ++ if_acted r.rule2 2 ++ if_acted r.rule3 3 ++ if_acted r.rule4 4 ++ if_acted r.rule5 5

abbrev pub slot_numbers : Option Slot → List ℕ
slot_numbers None = []
slot_numbers (Some l) = l.source.0 ∷ l.destination.0 ∷ l.quantity ∷ []

abbrev pub token_numbers : Option Token → List ℕ
token_numbers None = []
token_numbers (Some t) = t.source.0 ∷ t.destination.0 ∷ t.quantity ∷ []

-- what a message shows: from, to, value and clocks, then the slot and the token
abbrev pub shown_numbers : Message → List ℕ
shown_numbers m = m.from ∷ m.to ∷ m.value ∷ m.source.0 ∷ m.destination.0 ∷ (slot_numbers m.slot ++ token_numbers m.token)

-- answer and result; the rules that acted; the quantities opened and made; value and clocks; the
-- slot and the token for station 0
abbrev pub outcome_numbers : Outcome → List (List ℕ)
outcome_numbers r =
    (r.answer ∷ r.result ∷ [])
    ∷ rules_acted r.report
    ∷ (r.report.opened ∷ r.report.made ∷ [])
    ∷ (r.station.value ∷ r.station.source.0 ∷ r.station.destination.0 ∷ [])
    ∷ slot_numbers (slot_for r.station 0)
    ∷ token_numbers (token_for r.station 0)
    ∷ []

abbrev pub truth : Bool → List ℕ
truth true = 1 ∷ []
truth false = 0 ∷ []

-- whether each of two is sound
abbrev pub sound_stations : Station → Station → List (List ℕ)
sound_stations one other = truth (station_sound one) ∷ truth (station_sound other) ∷ []

abbrev pub sound_messages : Message → Message → List (List ℕ)
sound_messages one other = truth (message_sound one) ∷ truth (message_sound other) ∷ []

-- so many bytes, or numbers, of 7
abbrev pub sevens : ℕ → List ℕ
sevens n = replicate n 7
