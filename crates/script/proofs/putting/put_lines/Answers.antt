use mathlib.Core.Path.{refl, sym, ◌∙◌}
use lib.ListN.{length}
use Rattle.script.proofs.Turns.{puts_lines_by, turn_closes, turn_finished, turn_short, turn_steps, turn_unsound}
use Rattle.script.proofs.putting.put_lines.Goals as goal

pub returns-then-not-run_is_sound : goal.returns-then-not-run_is_sound
returns-then-not-run_is_sound c = let a = c.args in puts_lines_by a.script.now a.run a.out.now (turn_unsound a.script.now a.run (length a.out.now) (sym c.run_is_sound.ensures ∙ c.if-not-run_is_sound.true)) (rw c.number.ensures at c.stay.ensures) refl

pub returns-then-out-lt-CLOSING_ROOM : goal.returns-then-out-lt-CLOSING_ROOM
returns-then-out-lt-CLOSING_ROOM c = let a = c.args in puts_lines_by a.script.now a.run a.out.now (turn_short a.script.now a.run (length a.out.now) (sym c.run_is_sound.ensures ∙ c.if-not-run_is_sound.false) c.if-out-lt-CLOSING_ROOM.true) (rw c.number-then-out-lt-CLOSING_ROOM.ensures at c.stay-then-out-lt-CLOSING_ROOM.ensures) refl

pub returns-then-run : goal.returns-then-run
returns-then-run c = let a = c.args in puts_lines_by a.script.now a.run a.out.now (turn_finished a.script.now a.run (length a.out.now) (sym c.run_is_sound.ensures ∙ c.if-not-run_is_sound.false) c.if-out-lt-CLOSING_ROOM.false c.if-run.true) c.stay-then-run.ensures refl

pub returns-then-run-script : goal.returns-then-run-script
returns-then-run-script c =
    let a = c.args in
    let turn = turn_steps a.script.now a.run (length a.out.now) (sym c.run_is_sound.ensures ∙ c.if-not-run_is_sound.false) c.if-out-lt-CLOSING_ROOM.false c.if-run.false c.if-run-script.true in
    puts_lines_by a.script.now a.run a.out.now turn c.put_steps.ensures.0 c.put_steps.ensures.1

pub returns : goal.returns
returns c =
    let a = c.args in
    let turn = turn_closes a.script.now a.run (length a.out.now) (sym c.run_is_sound.ensures ∙ c.if-not-run_is_sound.false) c.if-out-lt-CLOSING_ROOM.false c.if-run.false c.if-run-script.false in
    puts_lines_by a.script.now a.run a.out.now turn c.put_end.ensures.0 c.put_end.ensures.1
