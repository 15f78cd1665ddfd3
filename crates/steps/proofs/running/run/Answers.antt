use mathlib.Core.Path.{sym, ◌∙◌}
use Rattle.steps.proofs.Ran.{ran_refused, ran_done}
use Rattle.steps.proofs.running.run.Goals as goal

pub returns-then-not-table_is_sound : goal.returns-then-not-table_is_sound
returns-then-not-table_is_sound c = rw c.number.ensures (ran_refused c.args.t c.args.codes.now c.args.told.now (sym c.table_is_sound.ensures ∙ c.if-not-table_is_sound.true))

pub returns : goal.returns
returns c = ran_done c.args.t c.args.codes.now c.args.told.now (sym c.table_is_sound.ensures ∙ c.if-not-table_is_sound.false) c.min-steps.ensures c.run_sound.ensures
