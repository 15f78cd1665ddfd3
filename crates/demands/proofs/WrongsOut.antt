-- No wrong outcome of a clock, of the rules, of a table, of a run of steps, of a script or of a
-- call from C is what is promised. Assumes nothing.
use lib.Dec.{T}
use Rattle.ground.specs.Below.{all_below}
use Rattle.station.specs.Sound.{station_sound, message_sound}
use Rattle.rules.specs.Stock.{added_to, drawn_from}
use Rattle.rules.specs.Taking.{five_rules, taken_of}
use Rattle.station.specs.Steps.{add_of, draw_of, show_of, receive_of, fresh_of}
use Rattle.ground.specs.First.{first_from}
use Rattle.table.specs.Sound.{table_sound}
use Rattle.table.specs.Fresh.{seats_to, fresh_table_of}
use Rattle.steps.specs.Running.{asked_in, all_told, left_by, ran_of, told_in_run}
use Rattle.steps.specs.Steps.{step_of}
use Rattle.measure.specs.Steps.{last_result}
use Rattle.record.specs.Numbers.{big, number_at}
use Rattle.record.specs.Fields.{bytes_of}
use Rattle.record.specs.Walk.{look, taken, step, ended, walk_from}
use Rattle.record.specs.Dateless.{record_of}
use Rattle.record.specs.Reading.{walked, is_record, read_of}
use Rattle.record.specs.AtStation.{receive_bytes_of}
use Rattle.quynhabet.specs.Layout.{four_fits, numbers_of, station_of, station_fits, message_numbers, message_of, message_fits}
use Rattle.ground.specs.InTurn.{in_turn}
use Rattle.quynhabet.specs.Exports.{fresh_by, check_of, add_by, draw_by, receive_by, show_by, read_by, write_by}
use Rattle.ground.specs.Sums.{sum_below}
use Rattle.demands.specs.Wrong.{ruled_out}
use Rattle.script.specs.Words.{numeral_of}
use Rattle.script.specs.Lines.{line_of, stations_of}
use Rattle.script.specs.Decimal.{digits_by}
use Rattle.script.specs.Script.{station_lines}
use Rattle.script.specs.Reading.{lines_from, past_lines}
use Rattle.script.specs.Telling.{lines_of_steps}
use Rattle.script.specs.Starting.{started_of}
use Rattle.script.specs.Putting.{piece_of}
use Rattle.demands.specs.WrongGround.{wrong_ground}
use Rattle.demands.specs.WrongRules.{wrong_rules}
use Rattle.demands.specs.WrongTables.{wrong_tables}
use Rattle.demands.specs.WrongScripts.{wrong_scripts}
use Rattle.demands.specs.WrongParts.{wrong_parts}
use Rattle.demands.specs.WrongExports.{wrong_exports}

pub wrong_ground_ruled_out : T (ruled_out wrong_ground)
wrong_ground_ruled_out = tt

pub wrong_rules_ruled_out : T (ruled_out wrong_rules)
unfolding five_rules taken_of added_to drawn_from
wrong_rules_ruled_out = tt

pub wrong_tables_ruled_out : T (ruled_out wrong_tables)
unfolding add_of draw_of show_of receive_of five_rules station_sound message_sound all_below first_from table_sound seats_to fresh_table_of step_of sum_below
wrong_tables_ruled_out = tt

pub wrong_scripts_ruled_out : T (ruled_out wrong_scripts)
unfolding started_of piece_of lines_from past_lines lines_of_steps left_by station_lines digits_by sum_below line_of stations_of numeral_of add_of draw_of show_of receive_of five_rules station_sound message_sound all_below first_from table_sound seats_to fresh_table_of step_of
wrong_scripts_ruled_out = tt

pub wrong_parts_ruled_out : T (ruled_out wrong_parts)
unfolding add_of draw_of show_of receive_of five_rules station_sound message_sound all_below first_from table_sound seats_to fresh_table_of step_of asked_in all_told left_by ran_of told_in_run last_result
wrong_parts_ruled_out = tt

pub wrong_exports_ruled_out : T (ruled_out wrong_exports)
unfolding fresh_of add_of draw_of receive_of receive_bytes_of five_rules station_sound message_sound all_below record_of bytes_of big number_at look taken step ended walk_from walked is_record read_of four_fits in_turn numbers_of station_of station_fits message_numbers message_of message_fits fresh_by check_of add_by draw_by receive_by show_by read_by write_by
wrong_exports_ruled_out = tt
