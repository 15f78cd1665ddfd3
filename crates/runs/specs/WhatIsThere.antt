-- A draw of what is there where more is asked, told as done with what was taken: half a kit. It
-- keeps demand 3, and demand 2 shuts it out.
use Rattle.steps.specs.Steps.{draw_step}
use Rattle.table.specs.Table.{station_at}
use Rattle.runs.specs.Runs.{Build}
use Rattle.runs.specs.Builds.{Drawing, draws_few_by}

abbrev pub all_there : Drawing
all_there t k amount = let s = station_at t k in draw_step t k s.value s

abbrev pub what_is_there : Build
what_is_there = draws_few_by all_there
