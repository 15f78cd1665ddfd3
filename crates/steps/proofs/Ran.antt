-- What a run promises, and that a run of one step is that step. Assumes nothing.
use Prim.Native.Nat.{ℕ, ◌<◌, ◌%◌}
use mathlib.Core.Path.{◌≡◌, refl, ◌∙◌}
use mathlib.Core.Bool.{Bool, true, false}
use mathlib.Core.List.{List}
use native.Mathlib.Nat.{mod-eq_of_lt}
use native.Mathlib.Omega.{arith}
use lib.ListN.{get_or, replicate}
use lib.Seq.{sets}
use Rattle.rules.specs.declared.report.Report.{Report}
use Rattle.ground.specs.Refusals.{answer_of}
use Rattle.rules.specs.Report.{no_report, rules_of}
use Rattle.ground.proofs.Choices.{answer_told}
use Rattle.steps.specs.declared.running.Ran.{Ran}
use Rattle.steps.specs.declared.asked.Step.{Step}
use Rattle.table.specs.declared.stepped.Stepped.{Stepped}
use Rattle.table.specs.declared.table.Table.{Table}
use Rattle.table.specs.Sound.{table_sound}
use Rattle.steps.specs.Steps.{step_refusals, step_done, step_of}
use Rattle.steps.specs.Running.{step_numbers, tells, asked_in, all_told, left_by, steps_in, ran_of, told_in_run, Runs, report_of, ran_by}

pub ran_refused : (t : Table) (codes told : List ℕ) → table_sound t ≡ false → Runs t codes told (record { answer = 1; result = 0; table = t }) told
unfolding ran_of told_in_run
ran_refused t codes told e = record { ran = rw e; lent = rw e }

pub ran_done : (t : Table) (codes told : List ℕ) {steps : ℕ} {r : Ran} {later : List ℕ} → table_sound t ≡ true → steps ≡ steps_in codes told
    → (r ≡ ran_by t steps codes) × (later ≡ sets told 0 (all_told t (asked_in steps codes))) → Runs t codes told r later
unfolding ran_of told_in_run
ran_done t codes told e f g = record { ran = rw (e, g.0, f); lent = rw (e, g.1, f) }

-- five numbers before a step has told anything
abbrev zeros : List ℕ
zeros = replicate 5 0

one_ran : (t : Table) (step : Step) → table_sound t ≡ true → ran_of t (step_numbers step) zeros ≡ record { answer = 0; result = 1; table = (step_of t step).table }
unfolding ran_of asked_in left_by
one_ran t step e = grind arith

one_told : (t : Table) (step : Step) → table_sound t ≡ true → told_in_run t (step_numbers step) zeros ≡ tells (step_of t step)
unfolding told_in_run asked_in all_told
one_told t step e = grind arith

step_unsound : (t : Table) (step : Step) → table_sound t ≡ false → record { answer = 1; result = 0; report = no_report; table = t } ≡ step_of t step
unfolding step_of
step_unsound t step e = grind arith

-- an answer is one byte
list_small : (t : Table) (step : Step) → answer_of (step_refusals t step) < 256
list_small t step = grind arith

-- a step that is done answers 0, so that every step answers what its list gives
done_answers_lem : (t : Table) (step : Step) → (step_done t step).answer ≡ 0
done_answers_lem t step = grind arith

pub step_answers : (t : Table) (step : Step) → (step_of t step).answer ≡ answer_of (step_refusals t step)
unfolding step_of
step_answers t step = answer_told (λ (x : Stepped). x.answer) (answer_of (step_refusals t step)) (step_done t step) _ (done_answers_lem t step) refl

-- three numbers tell the report
report_back : (r : Report) → report_of (rules_of r) r.opened r.made ≡ r
report_back r = grind arith

-- the numbers that were lent name the step
pub numbered : {t : Table} (step : Step) {codes told : List ℕ} {r : Ran} {later : List ℕ} → codes ≡ step_numbers step → Runs t codes told r later → Runs t (step_numbers step) told r later
numbered step e w = rw e at w

-- what a step returns of what a run of one told
pub one_refused : (t : Table) (step : Step) {r : Ran} {later : List ℕ} → Runs t (step_numbers step) zeros r later → (r.answer ≡ 0 → ⊥)
    → record { answer = r.answer; result = 0; report = no_report; table = r.table } ≡ step_of t step
unfolding ran_of
one_refused t step {r} w f = by (table_sound t) refl
  where
    by : (b : Bool) → table_sound t ≡ b → record { answer = r.answer; result = 0; report = no_report; table = r.table } ≡ step_of t step
    by true e = absurd (f (rw (w.ran, one_ran t step e)))
    by false e = let ran : r ≡ record { answer = 1; result = 0; table = t } = w.ran ∙ rw e in rw ran (step_unsound t step e)

pub one_done : (t : Table) (step : Step) {r : Ran} {later : List ℕ} → Runs t (step_numbers step) zeros r later → r.answer ≡ 0
    → record { answer = get_or later 0 0 % 256; result = get_or later 1 0; report = report_of (get_or later 2 0) (get_or later 3 0) (get_or later 4 0); table = r.table } ≡ step_of t step
unfolding ran_of
one_done t step {r} {later} w f = by (table_sound t) refl
  where
    by : (b : Bool) → table_sound t ≡ b
        → record { answer = get_or later 0 0 % 256; result = get_or later 1 0; report = report_of (get_or later 2 0) (get_or later 3 0) (get_or later 4 0); table = r.table } ≡ step_of t step
    by true e =
        let s = step_of t step in
        let small : s.answer < 256 = rw (step_answers t step) (list_small t step) in
        rw (w.lent, one_told t step e, w.ran, one_ran t step e, mod-eq_of_lt small, report_back s.report)
    by false e = let ran : r ≡ record { answer = 1; result = 0; table = t } = w.ran ∙ rw e in let z : ◌≡◌ {A = ℕ} 1 0 = rw ran at f in absurd (omega arith)
