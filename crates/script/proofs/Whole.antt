-- For every script and any buffer that a turn accepts, the program's loop puts the script's output,
-- and ends because its run has finished. Assumes nothing.
use Rattle.std.proofs.Common.{Option, Some, None}
use Prim.Native.Nat.{ℕ, zero, suc, ◌+◌, ◌≤◌, ◌<◌}
use mathlib.Core.Path.{◌≡◌, refl, sym, ◌∙◌}
use mathlib.Core.Bool.{true, false}
use mathlib.Core.List.{List, [], ◌∷◌, append-nil}
use mathlib.Core.Logic.{⊎_elim}
use native.Mathlib.Omega.{arith}
use Rattle.steps.specs.declared.asked.Step.{Step}
use borrow.Author.Tests.{le-leb}
use lib.ListN.{length}
use Rattle.table.specs.declared.table.Table.{Table}
use Rattle.table.specs.Sound.{table_sound}
use Rattle.steps.specs.Running.{asked_step, left_by}
use Rattle.steps.proofs.Kept.{step_keeps}
use Rattle.script.specs.declared.starting.Run.{Run}
use Rattle.script.specs.declared.starting.Started.{Started}
use Rattle.script.specs.Script.{most_bytes, output_of}
use Rattle.script.specs.Closing.{closing_room}
use Rattle.script.specs.Reading.{lines_from, past_lines}
use Rattle.script.specs.Starting.{not_started, started_of, answer_line}
use Rattle.script.specs.Putting.{at_once, closing_piece, run_sound, steps_piece}
use Rattle.script.specs.Printed.{most_turns, printed_in, put_in, run_in}
use Rattle.ground.proofs.Tests.{below_or_not}
use Rattle.ground.specs.Choice.{if_done}
use Rattle.script.proofs.Readings.{lines_onward, lines_some, lines_within}
use Rattle.script.proofs.Turns.{turn_closes, turn_steps}
use Rattle.script.proofs.Runs.{owed_ended, owed_lines, owed_from}
use Rattle.script.proofs.Starts.{begun, Begun, going, refused, start_prints, printed}

-- steps keep a table sound
asked_keeps : (t : Table) (x : Option Step) → table_sound t ≡ true → table_sound (asked_step t x).table ≡ true
asked_keeps t None e = e
asked_keeps t (Some step) e = step_keeps t step e

left_keeps : (t : Table) (xs : List (Option Step)) → table_sound t ≡ true → table_sound (left_by t xs) ≡ true
unfolding left_by
left_keeps t [] e = e
left_keeps t (x ∷ xs) e = left_keeps (asked_step t x).table xs (asked_keeps t x e)

-- what a run of a script that was started keeps: each step has taken at least one byte
record Ready (script : List ℕ) (run : Run) : Type 0 where
  sound : table_sound run.table ≡ true
  counted : run.number ≤ run.at
  within : run.at ≤ length script

-- a run that has finished puts no more
finished_puts : (turns room : ℕ) (script : List ℕ) (run : Run) → run.finished ≡ true → put_in turns room script run ≡ []
unfolding put_in
finished_puts zero room script run e = refl
finished_puts (suc turns) room script run e = rw e

finished_stays : (turns room : ℕ) (script : List ℕ) (run : Run) → run.finished ≡ true → (run_in turns room script run).finished ≡ true
unfolding run_in
finished_stays zero room script run e = e
finished_stays (suc turns) room script run e = rw e

module _ (script : List ℕ) (room : ℕ) (short : length script ≤ most_bytes) (wide : closing_room ≤ room) where
  module _ (run : Run) (ready : Ready script run) (open' : run.finished ≡ false) where
    run_sound_lem : run_sound run ≡ true
    run_sound_lem = rw (ready.sound, le-leb run.number most_bytes (omega (arith, ready.counted, ready.within)))

    steps_ready : (most : ℕ) → Ready script (steps_piece script run most).run
    steps_ready most =
        record {
          sound = left_keeps run.table (lines_from most script run.at) ready.sound;
          counted = omega (arith, ready.counted, lines_onward most script run.at);
          within = lines_within most script run.at ready.within;
        }

    steps_onward : (most : ℕ) → 0 < most → run.at < length script → run.at < past_lines most script run.at
    steps_onward most m h = omega (arith, lines_onward most script run.at, lines_some most script run.at m h)

  some_room : 0 < at_once room
  some_room = omega arith

  turns_put : (turns : ℕ) (run : Run) → Ready script run → run.finished ≡ false → length script < turns + run.at
      → (put_in turns room script run ≡ owed_from script run.table run.number run.at) × ((run_in turns room script run).finished ≡ true)
  unfolding put_in run_in
  turns_put zero run ready open' l = absurd (omega (arith, ready.within))
  turns_put (suc turns) run ready open' l =
      ⊎_elim
      (λ (h : run.at < length script).
      let most = at_once room in
      let next = (steps_piece script run most).run in
      let on = steps_onward run ready open' most some_room h in
      let rest = turns_put turns next (steps_ready run ready open' most) refl (omega arith) in
      rw (turn_steps script run room (run_sound_lem run ready open') wide open' h, open') (rw rest.0 (sym (owed_lines most script run.table run.number run.at)), rest.1))
      (λ (h : length script ≤ run.at).
      let next = (closing_piece run).run in
      rw (turn_closes script run room (run_sound_lem run ready open') wide open' h, open')
      (rw (finished_puts turns room script next refl, append-nil) (sym (owed_ended script run.table run.number run.at h)), finished_stays turns room script next refl))
      (below_or_not run.at (length script))

-- what is put is what the start says is printed
module _ (script : List ℕ) (room : ℕ) (wide : closing_room ≤ room) where
  whole_by : (s : Started) → Begun script s
      → (if_done s.answer (put_in most_turns room script s.run) (answer_line s.answer) ≡ printed script s) × ((run_in most_turns room script s.run).finished ≡ true)
  whole_by s (refused n e) = rw e (refl, finished_stays most_turns room script (not_started (suc n)).run refl)
  whole_by s (going t at e sound first within short) =
      let run : Run = record { table = t; at = at; number = 1; finished = false } in
      rw e (turns_put script room short wide most_turns run (record { sound = sound; counted = first; within = within }) refl (omega arith))

  pub whole : printed_in most_turns room script ≡ output_of script
  whole = (whole_by (started_of script) (begun script)).0 ∙ sym (start_prints script)

  pub finishes : (run_in most_turns room script (started_of script).run).finished ≡ true
  finishes = (whole_by (started_of script) (begun script)).1
