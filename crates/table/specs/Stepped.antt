-- What a step hands back.
use Rattle.std.specs.Prelude.{ℕ}
use Rattle.rules.specs.declared.report.Report.{Report}
use Rattle.ground.specs.Answers.{done}
use Rattle.ground.specs.Choice.{if_done}
use Rattle.rules.specs.Report.{no_report}
use Rattle.table.specs.declared.stepped.Stepped.{Stepped}
use Rattle.table.specs.declared.table.Table.{Table}

-- a step done: its result, its report and the table after it
abbrev pub did : ℕ → Report → Table → Stepped
did result report t = record { answer = done; result = result; report = report; table = t }

-- every refusal has result 0, names no rule and changes nothing
abbrev pub refused_step : ℕ → Table → Stepped
refused_step answer t = record { answer = answer; result = 0; report = no_report; table = t }

-- answer 0 is the step done; any other is a refusal
abbrev pub answered_step : ℕ → Table → Stepped → Stepped
answered_step answer t d = if_done answer d (refused_step answer t)
