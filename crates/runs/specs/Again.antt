-- A message delivered a second time that still has something to do, and what a build would tell
-- that only nods at it.
use Rattle.std.specs.Prelude.{ℕ, true, false, List, [], ◌∷◌, ◌++◌, None}
use Rattle.ground.specs.Answers.{done}
use Rattle.rules.specs.Report.{no_report}
use Rattle.rules.specs.declared.message.Message.{Message}
use Rattle.rules.specs.declared.report.Report.{Report}
use Rattle.table.specs.Fresh.{fresh_table_of}
use Rattle.steps.specs.Steps.{step_of}
use Rattle.steps.specs.declared.asked.Step.{Step}
use Rattle.steps.specs.declared.asked.Step.TheVariants.{Add, Send, Deliver}
use Rattle.table.specs.declared.stepped.Stepped.{Stepped}
use Rattle.table.specs.declared.table.Table.{Table}
use Rattle.runs.specs.Runs.{table_after}

-- what station 0 shows station 1 of its 10 passes
abbrev pub ten_shown : Message
ten_shown = record { from = 0; to = 1; value = 10; source = record { 0 = 0 }; destination = record { 0 = 0 }; slot = None; token = None }

-- this message waits at place 0; it is delivered and opens a slot of 5, a token of 5 is made for
-- that slot and lands in it
abbrev pub until_sent : List Step
until_sent = Add 0 10 ∷ Send 0 1 ∷ []

abbrev pub until_landed : List Step
until_landed = Deliver 0 ∷ Send 1 0 ∷ Deliver 1 ∷ Send 0 1 ∷ Deliver 2 ∷ []

abbrev pub at_first : Table
at_first = table_after step_of (fresh_table_of 2).table until_sent

-- the same message waits still
abbrev pub at_again : Table
at_again = table_after step_of (fresh_table_of 2).table (until_sent ++ until_landed)

-- done, with result 0; rule 3 acted, a slot of so many was opened
abbrev pub opens : ℕ → Report
opens q = record { rule1 = false; rule2 = false; rule3 = true; rule4 = false; rule5 = false; opened = q; made = 0 }

-- a nod: done, nothing told, nothing changed
abbrev pub nod : Table → Stepped
nod t = record { answer = done; result = 0; report = no_report; table = t }
