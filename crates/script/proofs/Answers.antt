-- What a script's calls answer is what their lists of refusals give. Assumes nothing.
use Rattle.std.proofs.Common.{Option, Some, None}
use Prim.Native.Nat.{ℕ}
use mathlib.Core.Path.{◌≡◌, refl}
use mathlib.Core.Bool.{Bool, true, false, cond, not}
use mathlib.Core.List.{List, [], ◌∷◌}
use lib.Dec.{ltb}
use lib.ListN.{length}
use Rattle.ground.specs.Answers.{not_sound, bad_line, long_script, short_buffer}
use Rattle.ground.specs.Refusals.{when, answer_of}
use Rattle.station.specs.Sound.{count_sound}
use Rattle.table.specs.Fresh.{fresh_table_of}
use Rattle.script.specs.declared.starting.Run.{Run}
use Rattle.script.specs.Closing.{closing_room}
use Rattle.script.specs.Lines.{stations_of}
use Rattle.script.specs.Reading.{line_at, past_line}
use Rattle.script.specs.Script.{most_bytes}
use Rattle.script.specs.Starting.{not_started, start_for, names_none, names_bad, start_refusals, started_of}
use Rattle.script.specs.Putting.{run_sound, OutputPiece, put_lines_refusals, piece_of}

start_by : (long : Bool) (first : Option ℕ) (at : ℕ) → (cond long (not_started long_script) (start_for first at)).answer
    ≡ answer_of (when long long_script ∷ when (names_none first) bad_line ∷ when (names_bad first) not_sound ∷ [])
unfolding fresh_table_of
start_by true first at = refl
start_by false None at = refl
start_by false (Some count) at = by (count_sound count) refl
  where
    by : (b : Bool) → count_sound count ≡ b → (start_for (Some count) at).answer ≡ cond (not (count_sound count)) not_sound 0
    by true e = rw e
    by false e = rw e

pub start_tells : (script : List ℕ) → (started_of script).answer ≡ answer_of (start_refusals script)
unfolding started_of
start_tells script = start_by (ltb most_bytes (length script)) (stations_of (line_at script 0)) (past_line script 0)

piece_by : (a b c d : Bool) (u v w x y : OutputPiece) → u.answer ≡ 1 → v.answer ≡ 14 → w.answer ≡ 0 → x.answer ≡ 0 → y.answer ≡ 0
    → (cond a u (cond b v (cond c w (cond d x y)))).answer ≡ answer_of (when a not_sound ∷ when b short_buffer ∷ [])
piece_by true b c d u v w x y p q e f g = p
piece_by false true c d u v w x y p q e f g = q
piece_by false false true d u v w x y p q e f g = e
piece_by false false false true u v w x y p q e f g = f
piece_by false false false false u v w x y p q e f g = g

pub put_lines_tells : (script : List ℕ) (run : Run) (room : ℕ) → (piece_of script run room).answer ≡ answer_of (put_lines_refusals run room)
unfolding piece_of
put_lines_tells script run room =
    piece_by (not (run_sound run)) (ltb room closing_room) run.finished (ltb run.at (length script)) _ _ _ _ _ refl refl refl refl refl
