-- The worked script, run through the definitions that the code's promises cite, prints what
-- document 01 prints, and its 5 passes depart once and arrive once. So demand 3's runs are not
-- empty of meaning. Assumes nothing.
use mathlib.Core.Path.{◌≡◌, refl}
use Rattle.table.specs.Fresh.{fresh_table_of}
use Rattle.steps.specs.Steps.{step_of}
use Rattle.runs.specs.Runs.{log_of, table_after, history_of}
use Rattle.runs.specs.Worked.{worked, run_output, worked_output, worked_history}
use Rattle.runs.proofs.WrittenOut.{written_out}

pub worked_output_lem : run_output (table_after step_of (fresh_table_of 2).table worked) (log_of step_of (fresh_table_of 2).table worked) ≡ worked_output
unfolding written_out
worked_output_lem = refl

pub worked_history_lem : history_of (log_of step_of (fresh_table_of 2).table worked) ≡ worked_history
unfolding written_out
worked_history_lem = refl
