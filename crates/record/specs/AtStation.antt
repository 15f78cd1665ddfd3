-- One station on bytes.
use Rattle.std.specs.Prelude.{ℕ, not, List, [], ◌∷◌, ◌++◌, ltb, eqb, length}
use Rattle.ground.specs.Answers.{not_sound, not_below_count, no_record, for_another, short_buffer}
use Rattle.ground.specs.Refusals.{Refusal, when, answer_of}
use Rattle.station.specs.declared.station.Station.{Station}
use Rattle.station.specs.declared.outcome.Outcome.{Outcome}
use Rattle.station.specs.Sound.{station_sound}
use Rattle.station.specs.Steps.{show_refusals, message_for, ends_below, fill_refusals, receive_of}
use Rattle.ground.specs.declared.told.Told.{Told}
use Rattle.record.specs.Dateless.{record_of}
use Rattle.record.specs.Reading.{is_record, read_of}
use Rattle.record.specs.Writing.{Writes}

-- what is written is the message that the station shows (1, 2, 3); 14 where the buffer is shorter
-- than its record
abbrev pub room_refusals : Station → ℕ → ℕ → List Refusal
room_refusals s to room = when (ltb room (length (record_of (message_for s to)))) short_buffer ∷ []

abbrev pub write_for_refusals : Station → ℕ → ℕ → List Refusal
write_for_refusals s to room = show_refusals s to ++ room_refusals s to room

abbrev pub write_for_answer : Station → ℕ → ℕ → ℕ
write_for_answer s to room = answer_of (write_for_refusals s to room)

abbrev pub WritesFor : Station → ℕ → List ℕ → Told → List ℕ → Type 0
WritesFor s to before r after = Writes (write_for_answer s to (length before)) (record_of (message_for s to)) before r after

-- receiving bytes is reading them and then receiving that message
unfoldable pub receive_bytes_of : Station → List ℕ → Outcome
receive_bytes_of s bytes = receive_of s (read_of bytes).message

-- so it is refused by 1, by 9 where the bytes are no record, and by what receiving their message is
-- refused by
abbrev pub receive_bytes_refusals : Station → List ℕ → List Refusal
receive_bytes_refusals s bytes =
    when (not (station_sound s)) not_sound
    ∷ when (not (is_record bytes)) no_record
    ∷ when (not (ends_below s (read_of bytes).message)) not_below_count
    ∷ when (not (eqb (read_of bytes).message.to s.number)) for_another
    ∷ fill_refusals s (read_of bytes).message
