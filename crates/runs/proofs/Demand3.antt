-- Demand 3 holds of the build whose steps the code's promises cite, for every count that a table
-- can have. Assumes nothing.
use Prim.Native.Nat.{ℕ}
use mathlib.Core.Path.{◌≡◌}
use mathlib.Core.List.{List}
use Rattle.handshake.specs.History.{Entry}
use Rattle.ground.specs.Answers.{done}
use Rattle.table.specs.Fresh.{fresh_table_of}
use Rattle.steps.specs.Steps.{step_of}
use Rattle.steps.specs.declared.asked.Step.{Step}
use Rattle.steps.specs.declared.asked.Step.TheVariants.{Add, Draw, Send, Deliver, Lose}
use Rattle.table.specs.declared.table.Table.{Table}
use Rattle.steps.proofs.Kept.{step_keeps}
use Rattle.runs.specs.Demand3.{Demand3}
use Rattle.runs.proofs.AnyBuild.{by_each_step}
use Rattle.runs.proofs.DeliverStep.{deliver_goes}
use Rattle.runs.proofs.PlaceSteps.{send_goes, lose_goes}
use Rattle.runs.proofs.Refused.{StepGoes}
use Rattle.runs.proofs.StockSteps.{add_goes, draw_goes}
use Rattle.runs.proofs.Reached.{Reached}

-- one step, each by its own reason
by_step : {t : Table} {H : List (Entry ℕ)} {plus minus : ℕ} → Reached t H plus minus → (step : Step) → StepGoes t step H (step_of t step)
by_step r (Add k amount) = add_goes r k amount
by_step r (Draw k amount) = draw_goes r k amount
by_step r (Send from to) = send_goes r from to
by_step r (Deliver p) = deliver_goes r p
by_step r (Lose p) = lose_goes r p

pub demand3 : (count : ℕ) → (fresh_table_of count).answer ≡ done → Demand3 step_of (fresh_table_of count).table
demand3 = by_each_step (record { goes = by_step; keeps = step_keeps })
