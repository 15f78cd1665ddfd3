-- What is put into a lent buffer at a time, a piece of a script's output, and the run that it
-- leaves.
use Rattle.std.specs.Prelude.{ℕ, ◌+◌, ◌/◌, min, ◌≡◌, Bool, true, false, cond, not, ◌&&◌, List, [], ◌∷◌, leb, ltb, length}
use Rattle.std.proofs.lemmas.List.Edits.{sets}
use Rattle.ground.specs.Answers.{done, not_sound, short_buffer}
use Rattle.ground.specs.Refusals.{Refusal, when}
use Rattle.table.specs.Sound.{table_sound}
use Rattle.steps.specs.Running.{left_by}
use Rattle.script.specs.declared.starting.Run.{Run}
use Rattle.script.specs.declared.putting.PutLines.{PutLines}
use Rattle.script.specs.Script.{most_bytes, closing}
use Rattle.script.specs.Closing.{closing_room}
use Rattle.script.specs.Reading.{lines_from, past_lines}
use Rattle.script.specs.Telling.{lines_of_steps}
use Rattle.script.specs.Starting.{step_room}

-- a run is sound if its table is, and its number is not above the longest script's bytes
abbrev pub run_sound : Run → Bool
run_sound run = table_sound run.table && leb run.number most_bytes

-- how many lines are read at once at most, and how many for a buffer's room
abbrev pub most_at_once : ℕ
most_at_once = 1024

abbrev pub at_once : ℕ → ℕ
at_once room = min most_at_once (room / step_room)

-- the answer, the bytes put, and the run past them
pub record OutputPiece : Type 0 where
  pub answer : ℕ
  pub bytes : List ℕ
  pub run : Run

-- nothing is put, and the run stays as it is
abbrev pub empty_piece : ℕ → Run → OutputPiece
empty_piece answer run = record { answer = answer; bytes = []; run = run }

-- the lines of the next steps, at most so many
abbrev pub steps_piece : List ℕ → Run → ℕ → OutputPiece
steps_piece script run most =
    let lines = lines_from most script run.at in
    let next : Run = record { table = left_by run.table lines; at = past_lines most script run.at; number = run.number + length lines; finished = false } in
    record { answer = done; bytes = lines_of_steps run.number run.table lines; run = next }

-- the closing lines, and the run is finished
abbrev pub closing_piece : Run → OutputPiece
closing_piece run =
    let next : Run = record { table = run.table; at = run.at; number = run.number; finished = true } in
    record { answer = done; bytes = closing run.table; run = next }

abbrev pub put_lines_refusals : Run → ℕ → List Refusal
put_lines_refusals run room = when (not (run_sound run)) not_sound ∷ when (ltb room closing_room) short_buffer ∷ []

-- refused by 1, 14; a finished run puts nothing; one with lines left puts the lines of steps, and
-- one at its end the closing lines
unfoldable pub piece_of : List ℕ → Run → ℕ → OutputPiece
piece_of script run room =
    cond (not (run_sound run)) (empty_piece not_sound run)
    (cond (ltb room closing_room) (empty_piece short_buffer run)
    (cond run.finished (empty_piece done run)
    (cond (ltb run.at (length script)) (steps_piece script run (at_once room)) (closing_piece run))))

abbrev pub piece_told : OutputPiece → PutLines
piece_told piece = record { answer = piece.answer; result = length piece.bytes; run = piece.run }

-- the first bytes of the buffer are those put, and every byte behind them is as it was
pub record PutsLines (script : List ℕ) (run : Run) (out : List ℕ) (r : PutLines) (later : List ℕ) : Type 0 where
  pub put : r ≡ piece_told (piece_of script run (length out))
  pub lent : later ≡ sets out 0 (piece_of script run (length out)).bytes
