-- The worked script, as its own bytes, prints the printed output, as its own bytes. Assumes
-- nothing.
use mathlib.Core.Path.{◌≡◌, refl}
use Rattle.ground.specs.Sums.{sum_below}
use Rattle.ground.specs.Below.{all_below}
use Rattle.station.specs.Sound.{station_sound, message_sound}
use Rattle.rules.specs.Taking.{five_rules}
use Rattle.station.specs.Steps.{add_of, draw_of, show_of, receive_of}
use Rattle.ground.specs.First.{first_from}
use Rattle.table.specs.Sound.{table_sound}
use Rattle.table.specs.Fresh.{seats_to, fresh_table_of}
use Rattle.steps.specs.Steps.{step_of}
use Rattle.script.specs.Words.{numeral_of}
use Rattle.script.specs.Lines.{line_of, stations_of}
use Rattle.script.specs.Decimal.{digits_by}
use Rattle.script.specs.Script.{station_lines, run_from, output_of}
use Rattle.demands.specs.WorkedScript.{script_bytes, printed_bytes}

pub worked_bytes : output_of script_bytes ≡ printed_bytes
unfolding add_of draw_of show_of receive_of five_rules station_sound message_sound all_below first_from table_sound seats_to fresh_table_of step_of sum_below output_of stations_of numeral_of line_of run_from station_lines digits_by
worked_bytes = refl
