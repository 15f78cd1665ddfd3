-- What the calls of the program's loop hand over is the script's output, by their promises alone.
-- Assumes nothing.
use Prim.Native.Nat.{ℕ, zero, suc, ◌≤◌}
use mathlib.Core.Path.{◌≡◌, refl, sym, ap, ◌∙◌}
use mathlib.Core.Bool.{true, false}
use mathlib.Core.List.{List, ◌++◌}
use lib.ListN.{length, take}
use Rattle.ground.proofs.Choices.{when_refused}
use Rattle.script.specs.declared.putting.PutLines.{PutLines}
use Rattle.ground.specs.declared.told.Told.{Told}
use Rattle.script.specs.declared.starting.Run.{Run}
use Rattle.script.specs.Script.{output_of}
use Rattle.script.specs.Closing.{closing_room}
use Rattle.script.specs.Starting.{PutsAnswer, started_of, step_room}
use Rattle.script.specs.Putting.{piece_of}
use Rattle.script.specs.Printed.{ended, Loops, most_turns, put_in, run_in, turned, used_up}
use Rattle.script.proofs.Fits.{answer_first, put_lines_first}
use Rattle.script.proofs.Starts.{start_prints}
use Rattle.script.proofs.Whole.{finishes, whole}

module _ (turns room : ℕ) (script : List ℕ) (run : Run) where
  put_on : run.finished ≡ false → put_in (suc turns) room script run ≡ (piece_of script run room).bytes ++ put_in turns room script (piece_of script run room).run
  unfolding put_in
  put_on e = rw e

  run_on : run.finished ≡ false → run_in (suc turns) room script run ≡ run_in turns room script (piece_of script run room).run
  unfolding run_in
  run_on e = rw e

-- one call after the other puts what the definition says
pub loops_put : {script : List ℕ} {room : ℕ} (turns : ℕ) {run last : Run} {bytes : List ℕ} → Loops script room turns run bytes last → (bytes ≡ put_in turns room script run) × (last ≡ run_in turns room script run)
unfolding put_in run_in
loops_put zero used_up = (refl, refl)
loops_put (suc turns) (ended e) = rw e (refl, refl)
loops_put {script} {room} (suc turns) {run} (turned {out = out} e l f more) =
    let rest = loops_put turns more in
    let first = put_lines_first script run out f ∙ ap (λ (n : ℕ). (piece_of script run n).bytes) l in
    let next = ap (λ (r : PutLines). r.run) f.put ∙ ap (λ (n : ℕ). (piece_of script run n).run) l in
    (rw (first, rest.0, next) (sym (put_on turns room script run e)), rest.1 ∙ rw next (sym (run_on turns room script run e)))

module _ (script : List ℕ) where
  -- a script that is refused: the line of its answer
  pub refused_put : (out : List ℕ) {r : Told} {later : List ℕ} → ((started_of script).answer ≡ 0 → ⊥) → step_room ≤ length out → PutsAnswer (started_of script).answer out r later → take r.result later ≡ output_of script
  refused_put out f room p = answer_first (started_of script).answer out room p ∙ sym (start_prints script ∙ sym (when_refused (started_of script).answer _ _ f))

  -- any other script: all its lines, and the loop ends because its run has finished
  pub started_put : (room : ℕ) {last : Run} {bytes : List ℕ} → (started_of script).answer ≡ 0 → closing_room ≤ room → Loops script room most_turns (started_of script).run bytes last → (bytes ≡ output_of script) × (last.finished ≡ true)
  started_put room e wide l =
      let put = loops_put most_turns l in
      let all : put_in most_turns room script (started_of script).run ≡ output_of script = rw e at (whole script room wide) in
      (put.0 ∙ all, ap (λ (r : Run). r.finished) put.1 ∙ finishes script room wide)
