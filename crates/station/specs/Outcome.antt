-- What an entry point tells.
use Rattle.std.specs.Prelude.{ℕ}
use Rattle.ground.specs.Choice.{if_done}
use Rattle.station.specs.declared.station.Station.{Station}
use Rattle.rules.specs.Report.{no_report}
use Rattle.station.specs.declared.outcome.Outcome.{Outcome}

-- every refusal has result 0 and changes nothing lent
abbrev pub refused : ℕ → Station → Outcome
refused n s = record { answer = n; result = 0; report = no_report; station = s }

-- answer 0 is the step done; any other is a refusal
abbrev pub answered : ℕ → Station → Outcome → Outcome
answered answer s done = if_done answer done (refused answer s)
