-- A run: steps one after the other, the table that they leave, and the log of what was asked and
-- reported. Everything that is counted is counted from the log.
use Rattle.std.specs.Prelude.{ℕ, ◌+◌, Bool, true, false, cond, List, [], ◌∷◌, ◌++◌, eqb, Option, Some, None}
use Rattle.rules.specs.declared.held.Token.{Token}
use Rattle.rules.specs.declared.held.Slot.{Slot}
use Rattle.handshake.specs.Channel.{Held}
use Rattle.handshake.specs.History.{Entry, departure, arrival, transfer}
use Rattle.ground.specs.Answers.{done}
use Rattle.rules.specs.declared.message.Message.{Message}
use Rattle.rules.specs.declared.report.Report.{Report}
use Rattle.steps.specs.declared.asked.Step.{Step}
use Rattle.steps.specs.declared.asked.Step.TheVariants.{Add, Draw, Send, Deliver, Lose}
use Rattle.table.specs.declared.stepped.Stepped.{Stepped}
use Rattle.table.specs.declared.table.Table.{Table}
use Rattle.table.specs.Table.{waiting_at}

-- what a build does at a step
abbrev pub Build : Type 0
Build = Table → Step → Stepped

-- a line of the log: the step, the message that it delivered, and what was reported
pub record Line : Type 0 where
  pub step : Step
  pub delivered : Option Message
  pub answer : ℕ
  pub result : ℕ
  pub report : Report

abbrev pub message_delivered : Table → Step → Option Message
message_delivered t (Add k amount) = None
message_delivered t (Draw k amount) = None
message_delivered t (Send from to) = None
message_delivered t (Deliver p) = waiting_at t p
message_delivered t (Lose p) = None

abbrev pub log_line : Table → Step → Stepped → Line
log_line t step told = record { step = step; delivered = message_delivered t step; answer = told.answer; result = told.result; report = told.report }

unfoldable pub log_of : Build → Table → List Step → List Line
log_of build t [] = []
log_of build t (step ∷ steps) = log_line t step (build t step) ∷ log_of build (build t step).table steps

unfoldable pub table_after : Build → Table → List Step → Table
table_after build t [] = t
table_after build t (step ∷ steps) = table_after build (build t step).table steps

-- an add that answered 0 counts its amount
abbrev pub amount_added : Step → ℕ → ℕ
amount_added (Add k amount) answer = cond (eqb answer done) amount 0
amount_added (Draw k amount) answer = 0
amount_added (Send from to) answer = 0
amount_added (Deliver p) answer = 0
amount_added (Lose p) answer = 0

-- a draw counts its reported result
abbrev pub amount_drawn : Step → ℕ → ℕ
amount_drawn (Add k amount) result = 0
amount_drawn (Draw k amount) result = result
amount_drawn (Send from to) result = 0
amount_drawn (Deliver p) result = 0
amount_drawn (Lose p) result = 0

unfoldable pub all_added : List Line → ℕ
all_added [] = 0
all_added (x ∷ log) = amount_added x.step x.answer + all_added log

unfoldable pub all_drawn : List Line → ℕ
all_drawn [] = 0
all_drawn (x ∷ log) = amount_drawn x.step x.result + all_drawn log

-- the token with a slot's or a token's two clocks and the amount that was reported
abbrev pub amounting : ℕ → ℕ → ℕ → Held ℕ
amounting source destination amount = record { source = source; destination = destination; carried = amount }

-- a fill is an arrival: of the message's token, with the result
abbrev pub arrival_by : Message → Option Token → Bool → ℕ → List (Entry ℕ)
arrival_by m (Some t) true amount = arrival (transfer m.from m.to (amounting t.source.0 t.destination.0 amount)) ∷ []
arrival_by m (Some t) false amount = []
arrival_by m None acted amount = []

-- a token made is a departure: for the message's slot, with the quantity reported
abbrev pub departure_by : Message → Option Slot → Bool → ℕ → List (Entry ℕ)
departure_by m (Some l) true amount = departure (transfer m.to m.from (amounting l.source.0 l.destination.0 amount)) ∷ []
departure_by m (Some l) false amount = []
departure_by m None acted amount = []

abbrev pub entries_by : Option Message → ℕ → Report → List (Entry ℕ)
entries_by None result report = []
entries_by (Some m) result report =
    arrival_by m m.token report.rule1 result ++ departure_by m m.slot report.rule5 report.made

unfoldable pub history_of : List Line → List (Entry ℕ)
history_of [] = []
history_of (x ∷ log) = entries_by x.delivered x.result x.report ++ history_of log
