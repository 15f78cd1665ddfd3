-- Every named case, every case at a bound, every case for rule 4 and every case for a draw gives
-- what it has to give. Assumes nothing.
use mathlib.Core.Path.{◌≡◌, refl}
use mathlib.Core.List.{map}
use Rattle.ground.specs.Sums.{sum_below}
use Rattle.ground.specs.Below.{all_below}
use Rattle.station.specs.Sound.{station_sound, message_sound}
use Rattle.rules.specs.Stock.{drawn_from}
use Rattle.rules.specs.Taking.{five_rules}
use Rattle.station.specs.Steps.{add_of, draw_of, show_of, receive_of}
use Rattle.record.specs.Numbers.{big, number_at}
use Rattle.record.specs.Fields.{bytes_of}
use Rattle.record.specs.Walk.{look, taken, step, ended, walk_from}
use Rattle.record.specs.Dateless.{record_of}
use Rattle.record.specs.Reading.{walked, is_record, read_of}
use Rattle.record.specs.AtStation.{receive_bytes_of}
use Rattle.ground.specs.First.{first_from}
use Rattle.table.specs.Sound.{table_sound}
use Rattle.table.specs.Fresh.{seats_to, fresh_table_of}
use Rattle.steps.specs.Steps.{step_of}
use Rattle.runs.specs.Runs.{log_of}
use Rattle.demands.specs.Cases.{Case}
use Rattle.demands.specs.BoundCases.{bound_cases}
use Rattle.demands.specs.NamedCases.{named_cases}
use Rattle.demands.specs.SpentTokens.{spent_tokens}
use Rattle.demands.specs.DrawCases.{draw_cases}

pub named_cases_hold : map (λ (c : Case). c.gives) named_cases ≡ map (λ (c : Case). c.wanted) named_cases
unfolding show_of receive_of five_rules station_sound message_sound all_below record_of bytes_of big number_at look taken step ended walk_from walked is_record read_of receive_bytes_of first_from table_sound seats_to fresh_table_of step_of log_of
named_cases_hold = refl

pub bound_cases_hold : map (λ (c : Case). c.gives) bound_cases ≡ map (λ (c : Case). c.wanted) bound_cases
unfolding add_of draw_of receive_of five_rules station_sound message_sound all_below table_sound seats_to fresh_table_of step_of sum_below
bound_cases_hold = refl

pub spent_tokens_hold : map (λ (c : Case). c.gives) spent_tokens ≡ map (λ (c : Case). c.wanted) spent_tokens
unfolding receive_of five_rules station_sound message_sound all_below
spent_tokens_hold = refl

pub draw_cases_hold : map (λ (c : Case). c.gives) draw_cases ≡ map (λ (c : Case). c.wanted) draw_cases
unfolding drawn_from draw_of station_sound message_sound all_below table_sound seats_to fresh_table_of step_of
draw_cases_hold = refl
