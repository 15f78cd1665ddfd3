-- A fresh table: every value, intake and clock 0, and no slot, token or message.
use Rattle.std.specs.Prelude.{ℕ, zero, suc, not, List, [], ◌∷◌, set, replicate, None}
use Rattle.station.specs.declared.station.Station.{Station}
use Rattle.ground.specs.Answers.{not_sound}
use Rattle.ground.specs.Refusals.{Refusal, when, answer_of}
use Rattle.ground.specs.Limits.{most_stations}
use Rattle.rules.specs.Report.{no_report}
use Rattle.station.specs.Sound.{count_sound}
use Rattle.station.specs.Steps.{blank}
use Rattle.table.specs.declared.table.Table.{Table}
use Rattle.table.specs.declared.stepped.Stepped.{Stepped}
use Rattle.pool.specs.Pool.{most_places}
use Rattle.table.specs.Stepped.{did, answered_step}

-- fresh stations at the numbers below k; every number 0 and nothing held at the others
unfoldable pub seats_to : ℕ → ℕ → List Station
seats_to count zero = replicate most_stations (blank 0 0)
seats_to count (suc k) = set (seats_to count k) k (blank k count)

abbrev pub blank_table : ℕ → Table
blank_table count = record { count = count; stations = seats_to count count; pool = replicate most_places (record { waiting = None }) }

-- 1 where the count is not 2 to 16; making has result 0
abbrev pub fresh_table_refusals : ℕ → List Refusal
fresh_table_refusals count = when (not (count_sound count)) not_sound ∷ []

-- a refused making hands back every number 0 and nothing held
unfoldable pub fresh_table_of : ℕ → Stepped
fresh_table_of count = answered_step (answer_of (fresh_table_refusals count)) (blank_table 0) (did 0 no_report (blank_table count))
