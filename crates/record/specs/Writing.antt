-- A message written into a lent buffer.
use Rattle.std.specs.Prelude.{ℕ, ◌≡◌, List, [], ◌∷◌, ◌++◌, not, ltb, length, drop, Option, Some, None}
use Rattle.rules.specs.declared.held.Token.{Token}
use Rattle.rules.specs.declared.held.Slot.{Slot}
use Rattle.rules.specs.declared.held.Terms.{Terms}
use Rattle.rules.specs.declared.message.Message.{Message}
use Rattle.ground.specs.Answers.{no_record, short_buffer}
use Rattle.ground.specs.Choice.{if_done}
use Rattle.ground.specs.Told.{told_with}
use Rattle.ground.specs.declared.told.Told.{Told}
use Rattle.station.specs.Sound.{message_sound}
use Rattle.ground.specs.Refusals.{Refusal, when, answer_of}
use Rattle.record.specs.Fields.{tagged, field_of}
use Rattle.record.specs.Dateless.{slot_field, token_field, slot_body, token_body, record_of}

-- the parts of a record: fields 1 to 4, which every record has, then 5 and 6
abbrev pub front : Message → List ℕ
front m =
    tagged 1 (1 ∷ []) (m.from ∷ []) ++ tagged 2 (1 ∷ []) (m.to ∷ []) ++ tagged 3 (8 ∷ []) (m.value ∷ [])
    ++ tagged 4 (4 ∷ 4 ∷ []) (m.source.0 ∷ m.destination.0 ∷ [])

abbrev pub slot_bytes : Option Slot → List ℕ
slot_bytes h = field_of slot_field (slot_body h)

abbrev pub token_bytes : Option Token → List ℕ
token_bytes h = field_of token_field (token_body h)

-- a field of terms, as the code puts it: of a tag and of what is held, and how long it is
abbrev pub terms_bytes : ℕ → Terms → List ℕ
terms_bytes tag t = tagged tag (4 ∷ 4 ∷ 8 ∷ []) (t.source.0 ∷ t.destination.0 ∷ t.quantity ∷ [])

abbrev pub held_bytes : {H : Type 0} → (H → Terms) → ℕ → Option H → List ℕ
held_bytes terms tag None = []
held_bytes terms tag (Some h) = terms_bytes tag (terms h)

abbrev pub held_size : {H : Type 0} → Option H → ℕ
held_size None = 0
held_size (Some h) = 19

-- the record in front, and every byte past it as it was
abbrev pub in_front : List ℕ → List ℕ → List ℕ
in_front bytes before = bytes ++ drop (length bytes) before

-- Writing these bytes with this answer: what is told, where the result is the record's length, and
-- what the buffer then holds. A refusal leaves every byte.
pub record Writes (answer : ℕ) (bytes before : List ℕ) (r : Told) (after : List ℕ) : Type 0 where
  pub told : r ≡ told_with answer (length bytes)
  pub buffer : after ≡ if_done answer (in_front bytes before) before

-- a given message: 9 where it is not sound, 14 where the buffer is shorter than its record
abbrev pub write_refusals : Message → ℕ → List Refusal
write_refusals m room = when (not (message_sound m)) no_record ∷ when (ltb room (length (record_of m))) short_buffer ∷ []

abbrev pub write_answer : Message → ℕ → ℕ
write_answer m room = answer_of (write_refusals m room)

abbrev pub WritesGiven : Message → List ℕ → Told → List ℕ → Type 0
WritesGiven m before r after = Writes (write_answer m (length before)) (record_of m) before r after
