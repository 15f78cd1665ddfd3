-- What a run that is written out computes with, in one word for the proofs that compute one.
-- Assumes nothing.
use Rattle.ground.specs.Below.{all_below}
use Rattle.ground.specs.First.{first_from}
use Rattle.ground.specs.Sums.{sum_below}
use Rattle.handshake.specs.History.{departed, arrived}
use Rattle.rules.specs.Taking.{five_rules}
use Rattle.station.specs.Sound.{station_sound, message_sound}
use Rattle.station.specs.Steps.{add_of, draw_of, show_of, receive_of}
use Rattle.table.specs.Fresh.{seats_to, fresh_table_of}
use Rattle.table.specs.Sound.{table_sound}
use Rattle.steps.specs.Steps.{step_of}
use Rattle.runs.specs.Builds.{built_with}
use Rattle.runs.specs.Runs.{log_of, table_after, all_added, all_drawn, history_of}
use Rattle.runs.specs.Tested.{any_below, answered_test, stale_test}
use Rattle.runs.specs.Worked.{step_rows}

unfoldable pub written_out : Unit {0}
unfolding add_of draw_of show_of receive_of five_rules station_sound message_sound all_below first_from table_sound seats_to fresh_table_of step_of sum_below built_with log_of table_after all_added all_drawn history_of departed arrived any_below answered_test stale_test step_rows
written_out = tt
