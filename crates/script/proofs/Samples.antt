-- What some numbers and lines print as, digit by digit. Assumes nothing.
use mathlib.Core.Path.{◌≡◌, refl}
use mathlib.Core.List.{[], ◌∷◌}
use Rattle.ground.specs.Below.{all_below}
use Rattle.station.specs.Sound.{station_sound}
use Rattle.table.specs.Sound.{table_sound}
use Rattle.table.specs.Fresh.{fresh_table_of, seats_to}
use Rattle.steps.specs.Steps.{step_of}
use Rattle.ground.specs.Sums.{sum_below}
use Rattle.script.specs.Decimal.{digits_by, decimal, step_line}
use Rattle.script.specs.Words.{numeral_of}
use Rattle.script.specs.Lines.{line_of, stations_of}
use Rattle.script.specs.Script.{output_of, run_from, station_lines}

pub zero_printed : decimal 0 ≡ 48 ∷ []
unfolding digits_by
zero_printed = refl

pub six_printed : decimal 710341 ≡ 55 ∷ 49 ∷ 48 ∷ 51 ∷ 52 ∷ 49 ∷ []
unfolding digits_by
six_printed = refl

-- the largest number of 64 bits
pub twenty_printed : decimal 18446744073709551615
    ≡ 49 ∷ 56 ∷ 52 ∷ 52 ∷ 54 ∷ 55 ∷ 52 ∷ 52 ∷ 48 ∷ 55 ∷ 51 ∷ 55 ∷ 48 ∷ 57 ∷ 53 ∷ 53 ∷ 49 ∷ 54 ∷ 49 ∷ 53 ∷ []
unfolding digits_by
twenty_printed = refl

-- `12 0 345`
pub says_printed : step_line 12 0 345 ≡ 49 ∷ 50 ∷ 32 ∷ 48 ∷ 32 ∷ 51 ∷ 52 ∷ 53 ∷ 10 ∷ []
unfolding digits_by
says_printed = refl

-- no bytes at all: `0 12 0`
pub nothing_printed : output_of [] ≡ 48 ∷ 32 ∷ 49 ∷ 50 ∷ 32 ∷ 48 ∷ 10 ∷ []
unfolding output_of stations_of digits_by
nothing_printed = refl

-- two stations, a place that is empty, and a last line that is no step and has no line end
pub script_printed : output_of (115 ∷ 116 ∷ 97 ∷ 116 ∷ 105 ∷ 111 ∷ 110 ∷ 115 ∷ 32 ∷ 50 ∷ 10 ∷ 108 ∷ 111 ∷ 115 ∷ 101 ∷ 32 ∷ 48 ∷ 10 ∷ 102 ∷ 101 ∷ 116 ∷ 99 ∷ 104 ∷ [])
    ≡ 49 ∷ 32 ∷ 56 ∷ 32 ∷ 48 ∷ 10 ∷ 50 ∷ 32 ∷ 49 ∷ 50 ∷ 32 ∷ 48 ∷ 10 ∷ 115 ∷ 116 ∷ 97 ∷ 116 ∷ 105 ∷ 111 ∷ 110 ∷ 32 ∷ 48 ∷ 32 ∷ 118 ∷ 97 ∷ 108 ∷ 117 ∷ 101 ∷ 32 ∷ 48 ∷ 32 ∷ 115 ∷ 111 ∷ 117 ∷ 114 ∷ 99 ∷ 101 ∷ 32 ∷ 48 ∷ 32 ∷ 100 ∷ 101 ∷ 115 ∷ 116 ∷ 105 ∷ 110 ∷ 97 ∷ 116 ∷ 105 ∷ 111 ∷ 110 ∷ 32 ∷ 48 ∷ 10 ∷ 115 ∷ 116 ∷ 97 ∷ 116 ∷ 105 ∷ 111 ∷ 110 ∷ 32 ∷ 49 ∷ 32 ∷ 118 ∷ 97 ∷ 108 ∷ 117 ∷ 101 ∷ 32 ∷ 48 ∷ 32 ∷ 115 ∷ 111 ∷ 117 ∷ 114 ∷ 99 ∷ 101 ∷ 32 ∷ 48 ∷ 32 ∷ 100 ∷ 101 ∷ 115 ∷ 116 ∷ 105 ∷ 110 ∷ 97 ∷ 116 ∷ 105 ∷ 111 ∷ 110 ∷ 32 ∷ 48 ∷ 10 ∷ 111 ∷ 110 ∷ 32 ∷ 116 ∷ 104 ∷ 101 ∷ 32 ∷ 119 ∷ 97 ∷ 121 ∷ 32 ∷ 48 ∷ 10 ∷ 116 ∷ 111 ∷ 116 ∷ 97 ∷ 108 ∷ 32 ∷ 48 ∷ 10 ∷ []
unfolding output_of stations_of numeral_of fresh_table_of seats_to run_from line_of step_of table_sound station_sound all_below station_lines sum_below digits_by
script_printed = refl
