-- A record read: what the walk over the table comes to.
use Rattle.std.specs.Prelude.{ℕ, ◌+◌, List, [], ◌∷◌, Bool, true, false, ◌&&◌, not, leb, eqb, length, Option, Some, None, Result, Ok, Err}
use Rattle.ground.specs.Answers.{done, no_record}
use Rattle.ground.specs.Refusals.{Refusal, when}
use Rattle.rules.specs.declared.held.Terms.{Terms}
use Rattle.rules.specs.declared.message.Message.{Message}
use Rattle.rules.specs.Message.{no_message}
use Rattle.record.specs.declared.faults.Fault.{Fault}
use Rattle.record.specs.declared.fields.Line.{Line}
use Rattle.record.specs.declared.front.Ends.{Ends}
use Rattle.record.specs.declared.front.Front.{Front}
use Rattle.record.specs.declared.reading.Reading.{Reading}
use Rattle.record.specs.Numbers.{number_at}
use Rattle.record.specs.Fields.{Body, body, Field, total}
use Rattle.record.specs.Walk.{Walk, going, stopped, Look, here, away, fault, look, step, walk}
use Rattle.record.specs.Dateless.{dateless, from_field, to_field, value_field, clocks_field, message_in}

-- where the walk stands by what the code hands back
abbrev pub stood : {A : Type 0} → (A → Walk) → Result A Fault → Walk
stood read (Ok x) = read x
stood read (Err f) = stopped f.kind f.at

-- a whole field of this tag and length stands at a position
unfoldable pub whole_at : List ℕ → ℕ → ℕ → ℕ → Bool
whole_at bytes at tag size =
    leb (at + 3 + size) (length bytes) && eqb (number_at bytes at 1) tag && eqb (number_at bytes (at + 1) 2) size

-- past a field that is there, at the same byte where it is away
abbrev pub cursor_at : ℕ → ℕ → Look → Result ℕ Fault
cursor_at at size here = Ok (at + 3 + size)
cursor_at at size away = Ok at
cursor_at at size (fault kind place) = Err (record { kind = kind; at = place })

-- a line of the table as the code has it
abbrev pub line_for : Field → Bool → Line
line_for f last = record { tag = f.tag; size = total f.sizes; must = f.must; last = last }

-- what the code looks for at a byte
abbrev pub look_for : List ℕ → ℕ → Line → Look
look_for bytes at line = look bytes at line.tag line.size line.must line.last

unfoldable pub next_of : List ℕ → ℕ → Line → Result ℕ Fault
next_of bytes at line = cursor_at at line.size (look_for bytes at line)

-- fields 1 and 2, then 1 to 4, as the code holds them once they are read
unfoldable pub ends_walk : List ℕ → Walk
ends_walk bytes = step bytes to_field false (step bytes from_field false (going 0 []))

abbrev pub ends_bodies : ℕ → ℕ → List Body
ends_bodies from to = body (from ∷ []) ∷ body (to ∷ []) ∷ []

abbrev pub ends_read : Ends → Walk
ends_read e = going e.at (ends_bodies e.from e.to)

unfoldable pub front_walk : List ℕ → Walk
front_walk bytes = step bytes clocks_field false (step bytes value_field false (ends_walk bytes))

abbrev pub front_bodies : Front → List Body
front_bodies f =
    body (f.from ∷ []) ∷ body (f.to ∷ []) ∷ body (f.value ∷ []) ∷ body (f.source.0 ∷ f.destination.0 ∷ []) ∷ []

abbrev pub front_read : Front → Walk
front_read f = going f.at (front_bodies f)

-- fields 5 and 6, whose bodies are terms: what is held on them and the next byte, not yet tested
abbrev pub terms_at : List ℕ → ℕ → Terms
terms_at bytes at =
    record { source = record { 0 = number_at bytes at 4 }; destination = record { 0 = number_at bytes (at + 4) 4 }; quantity = number_at bytes (at + 8) 8 }

abbrev pub held_at : {H : Type 0} → (Terms → H) → List ℕ → ℕ → ℕ → Look → Result (Option H × ℕ) Fault
held_at on bytes at size here = Ok (Some (on (terms_at bytes (at + 3))), at + 3 + size)
held_at on bytes at size away = Ok (None, at)
held_at on bytes at size (fault kind place) = Err (record { kind = kind; at = place })

unfoldable pub held_next : {H : Type 0} → (Terms → H) → List ℕ → ℕ → Line → Result (Option H × ℕ) Fault
held_next on bytes at line = held_at on bytes at line.size (look_for bytes at line)

-- what the walk comes to: a message and the record's end, or a fault and its place
abbrev pub walked_of : Walk → Result (Message × ℕ) Fault
walked_of (going at bodies) = Ok (message_in bodies, at)
walked_of (stopped kind place) = Err (record { kind = kind; at = place })

unfoldable pub walked : List ℕ → Result (Message × ℕ) Fault
walked bytes = walked_of (walk dateless bytes)

-- bytes are a record exactly if the walk over them ends with no fault
abbrev pub goes : Walk → Bool
goes (going at bodies) = true
goes (stopped kind place) = false

unfoldable pub is_record : List ℕ → Bool
is_record bytes = goes (walk dateless bytes)

-- a refused reading: every number 0 and nothing held
abbrev pub no_reading : Reading
no_reading = record { answer = no_record; result = 0; message = no_message }

-- any fault is answer 9
abbrev pub reading_of : Result (Message × ℕ) Fault → Reading
reading_of (Ok read) = record { answer = done; result = read.1; message = read.0 }
reading_of (Err f) = no_reading

unfoldable pub read_of : List ℕ → Reading
read_of bytes = reading_of (walked bytes)

-- 9 where the bytes are no record
abbrev pub read_refusals : List ℕ → List Refusal
read_refusals bytes = when (not (is_record bytes)) no_record ∷ []
