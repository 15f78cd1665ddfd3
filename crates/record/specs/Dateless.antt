-- Document 01's record: six fields, the last two of which may be missing.
use Rattle.std.specs.Prelude.{ℕ, List, [], ◌∷◌, Bool, ◌&&◌, not, leb, eqb, Option, Some, None}
use Rattle.rules.specs.declared.held.Token.{Token}
use Rattle.rules.specs.declared.held.Slot.{Slot}
use Rattle.rules.specs.declared.message.Message.{Message}
use Rattle.ground.specs.Limits.{most_value}
use Rattle.ground.specs.Clocks.{clock_sound}
use Rattle.station.specs.Sound.{slot_sound, token_sound}
use Rattle.record.specs.Fields.{Body, missing, body, Field, required, optional, nth, body_at, number_of, bytes_of}

-- a slot or a token of a field's numbers
abbrev pub slot_in : Body → Option Slot
slot_in missing = None
slot_in (body n) = Some (record { source = record { 0 = nth n 0 }; destination = record { 0 = nth n 1 }; quantity = nth n 2 })

abbrev pub token_in : Body → Option Token
token_in missing = None
token_in (body n) = Some (record { source = record { 0 = nth n 0 }; destination = record { 0 = nth n 1 }; quantity = nth n 2 })

-- which numbers are sound with what was read before
abbrev pub from_fits : List Body → List ℕ → Bool
from_fits before n = leb (nth n 0) 15

abbrev pub to_fits : List Body → List ℕ → Bool
to_fits before n = leb (nth n 0) 15 && not (eqb (number_of before 0 0) (nth n 0))

abbrev pub value_fits : List Body → List ℕ → Bool
value_fits before n = leb (nth n 0) most_value

abbrev pub clocks_fit : List Body → List ℕ → Bool
clocks_fit before n = clock_sound (nth n 0) && clock_sound (nth n 1)

abbrev pub slot_fits : List Body → List ℕ → Bool
slot_fits before n = slot_sound (slot_in (body n)) (record { 0 = number_of before 3 1 })

abbrev pub token_fits : List Body → List ℕ → Bool
token_fits before n = token_sound (token_in (body n)) (record { 0 = number_of before 3 0 })

-- the lines of the table
abbrev pub from_field : Field
from_field = required 1 (1 ∷ []) from_fits

abbrev pub to_field : Field
to_field = required 2 (1 ∷ []) to_fits

abbrev pub value_field : Field
value_field = required 3 (8 ∷ []) value_fits

abbrev pub clocks_field : Field
clocks_field = required 4 (4 ∷ 4 ∷ []) clocks_fit

abbrev pub slot_field : Field
slot_field = optional 5 (4 ∷ 4 ∷ 8 ∷ []) slot_fits

abbrev pub token_field : Field
token_field = optional 6 (4 ∷ 4 ∷ 8 ∷ []) token_fits

abbrev pub dateless : List Field
dateless = from_field ∷ to_field ∷ value_field ∷ clocks_field ∷ slot_field ∷ token_field ∷ []

-- a message's bodies, and the message of bodies
abbrev pub slot_body : Option Slot → Body
slot_body None = missing
slot_body (Some l) = body (l.source.0 ∷ l.destination.0 ∷ l.quantity ∷ [])

abbrev pub token_body : Option Token → Body
token_body None = missing
token_body (Some t) = body (t.source.0 ∷ t.destination.0 ∷ t.quantity ∷ [])

abbrev pub bodies_of : Message → List Body
bodies_of m =
    body (m.from ∷ []) ∷ body (m.to ∷ []) ∷ body (m.value ∷ []) ∷ body (m.source.0 ∷ m.destination.0 ∷ [])
    ∷ slot_body m.slot ∷ token_body m.token ∷ []

abbrev pub message_in : List Body → Message
message_in bodies =
    record {
      from = number_of bodies 0 0;
      to = number_of bodies 1 0;
      value = number_of bodies 2 0;
      source = record { 0 = number_of bodies 3 0 };
      destination = record { 0 = number_of bodies 3 1 };
      slot = slot_in (body_at bodies 4);
      token = token_in (body_at bodies 5);
    }

-- a message as bytes
unfoldable pub record_of : Message → List ℕ
record_of m = bytes_of dateless (bodies_of m)
