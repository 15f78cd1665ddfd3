-- Every answer of the list is 0. Assumes nothing.
use mathlib.Core.Path.{◌≡◌, refl}
use lib.ListN.{length, replicate}
use Rattle.ground.specs.Sums.{sum_below}
use Rattle.ground.specs.Below.{all_below}
use Rattle.station.specs.Sound.{station_sound, message_sound}
use Rattle.rules.specs.Stock.{added_to, drawn_from}
use Rattle.rules.specs.Taking.{five_rules, taken_of}
use Rattle.station.specs.Steps.{fresh_of, add_of, draw_of, show_of, receive_of}
use Rattle.record.specs.Numbers.{big, number_at}
use Rattle.record.specs.Fields.{bytes_of}
use Rattle.record.specs.Walk.{look, taken, step, ended, walk_from}
use Rattle.record.specs.Dateless.{record_of}
use Rattle.record.specs.Reading.{walked, is_record, read_of}
use Rattle.record.specs.AtStation.{receive_bytes_of}
use Rattle.ground.specs.First.{first_from}
use Rattle.table.specs.Sound.{table_sound}
use Rattle.table.specs.Fresh.{seats_to, fresh_table_of}
use Rattle.steps.specs.Running.{asked_in, left_by, ran_of}
use Rattle.steps.specs.Steps.{step_of}
use Rattle.script.specs.Words.{numeral_of}
use Rattle.script.specs.Lines.{stations_of}
use Rattle.script.specs.Starting.{started_of}
use Rattle.script.specs.Putting.{piece_of}
use Rattle.demands.specs.Done.{done_answers}

pub all_done : done_answers ≡ replicate (length done_answers) 0
unfolding taken_of added_to drawn_from asked_in left_by ran_of numeral_of stations_of started_of piece_of fresh_of add_of draw_of show_of receive_of five_rules station_sound message_sound all_below record_of bytes_of big number_at look taken step ended walk_from walked is_record read_of receive_bytes_of first_from table_sound seats_to fresh_table_of step_of sum_below
all_done = refl
