-- A run of steps in one call: steps as numbers, three for each, and what each tells as numbers,
-- five for each.
use Rattle.std.specs.Prelude.{ℕ, zero, suc, min, ◌/◌, ◌%◌, ◌≡◌, cond, List, [], ◌∷◌, ◌++◌, eqb, length, get_or, drop, Option, Some, None}
use Rattle.std.proofs.lemmas.List.Edits.{sets}
use Rattle.rules.specs.declared.report.Report.{Report}
use Rattle.ground.specs.Answers.{done, not_sound, bad_line}
use Rattle.rules.specs.Report.{no_report, rules_of}
use Rattle.steps.specs.declared.running.Ran.{Ran}
use Rattle.steps.specs.declared.asked.Step.{Step}
use Rattle.steps.specs.declared.asked.Step.TheVariants.{Add, Draw, Send, Deliver, Lose}
use Rattle.table.specs.declared.stepped.Stepped.{Stepped}
use Rattle.table.specs.declared.table.Table.{Table}
use Rattle.table.specs.Sound.{table_sound}
use Rattle.steps.specs.Steps.{step_of}

-- 0 an add, 1 a draw, 2 a send, 3 a delivery, 4 a loss, with its numbers; any other names no step.
-- Of a delivery and a loss the last number is not looked at
abbrev pub asked_by : ℕ → ℕ → ℕ → Option Step
asked_by kind a b =
    cond (eqb kind 0) (Some (Add a b))
    (cond (eqb kind 1) (Some (Draw a b))
    (cond (eqb kind 2) (Some (Send a b))
    (cond (eqb kind 3) (Some (Deliver a))
    (cond (eqb kind 4) (Some (Lose a)) None))))

-- the numbers that name what is asked for
abbrev pub step_numbers : Step → List ℕ
step_numbers (Add k amount) = 0 ∷ k ∷ amount ∷ []
step_numbers (Draw k amount) = 1 ∷ k ∷ amount ∷ []
step_numbers (Send from to) = 2 ∷ from ∷ to ∷ []
step_numbers (Deliver p) = 3 ∷ p ∷ 0 ∷ []
step_numbers (Lose p) = 4 ∷ p ∷ 0 ∷ []

abbrev pub numbers_for : Option Step → List ℕ
numbers_for None = 5 ∷ 0 ∷ 0 ∷ []
numbers_for (Some step) = step_numbers step

-- what names no step is answered 12, and changes nothing
abbrev pub asked_step : Table → Option Step → Stepped
asked_step t None = record { answer = bad_line; result = 0; report = no_report; table = t }
asked_step t (Some step) = step_of t step

-- the answer, the result, the rules that acted as a sum of 1, 2, 4, 8, 16, the quantity of a slot
-- opened and that of a token made
abbrev pub tells : Stepped → List ℕ
tells s = s.answer ∷ s.result ∷ rules_of s.report ∷ s.report.opened ∷ s.report.made ∷ []

-- what the first n threes of numbers ask for
unfoldable pub asked_in : ℕ → List ℕ → List (Option Step)
asked_in zero codes = []
asked_in (suc n) codes = asked_by (get_or codes 0 0) (get_or codes 1 0) (get_or codes 2 0) ∷ asked_in n (drop 3 codes)

-- one after the other: all that is told, and the table that is left
unfoldable pub all_told : Table → List (Option Step) → List ℕ
all_told t [] = []
all_told t (x ∷ xs) = let s = asked_step t x in tells s ++ all_told s.table xs

unfoldable pub left_by : Table → List (Option Step) → Table
left_by t [] = t
left_by t (x ∷ xs) = left_by (asked_step t x).table xs

-- as many whole steps as are lent, and as what they tell has room for
abbrev pub steps_in : List ℕ → List ℕ → ℕ
steps_in codes told = min (length codes / 3) (length told / 5)

abbrev pub asked_of : List ℕ → List ℕ → List (Option Step)
asked_of codes told = asked_in (steps_in codes told) codes

abbrev pub ran_by : Table → ℕ → List ℕ → Ran
ran_by t steps codes = record { answer = done; result = steps; table = left_by t (asked_in steps codes) }

-- 1 where the table is not sound, and then nothing is done and nothing told. Result: how many steps
unfoldable pub ran_of : Table → List ℕ → List ℕ → Ran
ran_of t codes told = cond (table_sound t) (ran_by t (steps_in codes told) codes) (record { answer = not_sound; result = 0; table = t })

unfoldable pub told_in_run : Table → List ℕ → List ℕ → List ℕ
told_in_run t codes told = cond (table_sound t) (sets told 0 (all_told t (asked_of codes told))) told

pub record Runs (t : Table) (codes told : List ℕ) (r : Ran) (later : List ℕ) : Type 0 where
  pub ran : r ≡ ran_of t codes told
  pub lent : later ≡ told_in_run t codes told

-- the report that the last three of five numbers tell
abbrev pub report_of : ℕ → ℕ → ℕ → Report
report_of rules opened made =
    record {
      rule1 = eqb (rules % 2) 1;
      rule2 = eqb (rules / 2 % 2) 1;
      rule3 = eqb (rules / 4 % 2) 1;
      rule4 = eqb (rules / 8 % 2) 1;
      rule5 = eqb (rules / 16 % 2) 1;
      opened = opened;
      made = made;
    }
