-- A refusal of a script's calls: result 0, and nothing that was lent is changed. Assumes nothing.
use Prim.Native.Nat.{ℕ, ◌≤◌, ◌<◌}
use mathlib.Core.Path.{◌≡◌, refl, ap, ◌∙◌}
use mathlib.Core.Bool.{Bool, true, false}
use mathlib.Core.List.{List, []}
use mathlib.Core.Logic.{⊎_elim}
use borrow.Author.Tests.{le-ltb, lt-ltb}
use lib.ListN.{length}
use Rattle.script.specs.declared.putting.PutLines.{PutLines}
use Rattle.ground.specs.declared.told.Told.{Told}
use Rattle.script.specs.declared.starting.Run.{Run}
use Rattle.script.specs.declared.starting.Started.{Started}
use Rattle.script.specs.Closing.{closing_room}
use Rattle.script.specs.Starting.{not_started, PutsAnswer, started_of, step_room}
use Rattle.script.specs.Putting.{PutsLines, run_sound, OutputPiece, piece_of}
use Rattle.ground.proofs.Tests.{below_or_not}
use Rattle.script.proofs.Starts.{begun, Begun, going, refused}
use Rattle.script.proofs.Turns.{turn_closes, turn_finished, turn_short, turn_steps, turn_unsound}

-- a script that is refused hands back every number 0 and nothing held
start_by : (script : List ℕ) (s : Started) → Begun script s → (s.answer ≡ 0 → ⊥) → (s.result ≡ 0) × (s.run ≡ (not_started 0).run)
start_by script s (refused n e) f = rw e (refl, refl)
start_by script s (going t at e sound first within short) f = absurd (f (ap (λ (s : Started). s.answer) e))

pub start_refused : (script : List ℕ) → ((started_of script).answer ≡ 0 → ⊥) → ((started_of script).result ≡ 0) × ((started_of script).run ≡ (not_started 0).run)
start_refused script f = start_by script (started_of script) (begun script) f

-- a line that is refused leaves the buffer as it was
pub answer_refused : (answer : ℕ) (out : List ℕ) {r : Told} {later : List ℕ} → PutsAnswer answer out r later → (r.answer ≡ 0 → ⊥) → (r.result ≡ 0) × (later ≡ out)
answer_refused answer out p f =
    ⊎_elim
    (λ (h : length out < step_room). rw (p.put, p.lent, lt-ltb (length out) step_room h) (refl, refl))
    (λ (h : step_room ≤ length out). absurd (f (ap (λ (r : Told). r.answer) p.put ∙ rw (le-ltb (length out) step_room h))))
    (below_or_not (length out) step_room)

-- a turn that is refused puts nothing and leaves the run as it was
module _ (script : List ℕ) (run : Run) (room : ℕ) where
  module _ (e : run_sound run ≡ true) (wide : closing_room ≤ room) where
    open_done : run.finished ≡ false → (piece_of script run room).answer ≡ 0
    open_done f =
        ⊎_elim
        (λ (h : run.at < length script). ap (λ (t : OutputPiece). t.answer) (turn_steps script run room e wide f h))
        (λ (h : length script ≤ run.at). ap (λ (t : OutputPiece). t.answer) (turn_closes script run room e wide f h))
        (below_or_not run.at (length script))

    by_finished : (b : Bool) → run.finished ≡ b → (piece_of script run room).answer ≡ 0
    by_finished true f = ap (λ (t : OutputPiece). t.answer) (turn_finished script run room e wide f)
    by_finished false f = open_done f

  by_sound : (b : Bool) → run_sound run ≡ b → ((piece_of script run room).answer ≡ 0 → ⊥) → ((piece_of script run room).bytes ≡ []) × ((piece_of script run room).run ≡ run)
  by_sound true e f =
      ⊎_elim
      (λ (h : room < closing_room). rw (turn_short script run room e h) (refl, refl))
      (λ (wide : closing_room ≤ room). absurd (f (by_finished e wide run.finished refl)))
      (below_or_not room closing_room)
  by_sound false e f = rw (turn_unsound script run room e) (refl, refl)

pub put_lines_refused : (script : List ℕ) (run : Run) (out : List ℕ) {r : PutLines} {later : List ℕ} → PutsLines script run out r later → (r.answer ≡ 0 → ⊥) → (r.result ≡ 0) × (r.run ≡ run) × (later ≡ out)
put_lines_refused script run out p f =
    let none = by_sound script run (length out) (run_sound run) refl (λ z. f (ap (λ (r : PutLines). r.answer) p.put ∙ z)) in
    rw (p.put, p.lent, none.0, none.1) (refl, refl, refl)
