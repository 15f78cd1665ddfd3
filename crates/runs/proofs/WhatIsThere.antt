-- A draw of what is there where more is asked keeps demand 3. It is not what a step does, and so
-- demand 2 shuts it out. Assumes nothing.
use Rattle.std.proofs.lemmas.Bool.Decides.{nat_tests}
use Prim.Native.Nat.{ℕ, ◌<◌}
use mathlib.Core.Path.{◌≡◌, refl, ap}
use mathlib.Core.Bool.{true, cond, not}
use mathlib.Core.List.{List}
use native.Mathlib.Omega.{arith}
use lib.Dec.{ltb}
use borrow.Author.Tests.{eqb-false, ltb-false}
use Rattle.handshake.specs.History.{Entry}
use Rattle.ground.specs.Answers.{done}
use Rattle.rules.specs.Stock.{amount_sound}
use Rattle.ground.proofs.Choices.{chosen, either_way}
use Rattle.steps.specs.declared.asked.Step.{Step}
use Rattle.steps.specs.declared.asked.Step.TheVariants.{Add, Draw, Send, Deliver, Lose}
use Rattle.steps.specs.Steps.{step_of}
use Rattle.steps.proofs.Kept.{step_keeps, less_keeps}
use Rattle.table.specs.declared.stepped.Stepped.{Stepped}
use Rattle.table.specs.declared.table.Table.{Table}
use Rattle.table.specs.Fresh.{fresh_table_of}
use Rattle.table.specs.Sound.{table_sound}
use Rattle.table.specs.Table.{station_at, waiting_at}
use Rattle.table.proofs.Tables.{table_parts, table_whole}
use Rattle.runs.specs.Builds.{built_with, few_or}
use Rattle.runs.specs.Demand3.{Demand3}
use Rattle.runs.specs.WhatIsThere.{all_there, what_is_there}
use Rattle.runs.proofs.AnyBuild.{by_each_step}
use Rattle.runs.proofs.DeliverStep.{deliver_goes}
use Rattle.runs.proofs.PlaceSteps.{send_goes, lose_goes}
use Rattle.runs.proofs.Reached.{Reached}
use Rattle.runs.proofs.Refused.{StepGoes, by_answer}
use Rattle.runs.proofs.RightParts.{delivers_right}
use Rattle.runs.proofs.StockSteps.{add_goes, taken_goes}
use Rattle.runs.proofs.WrittenOut.{written_out}

-- what a draw of this build is refused by: 15 is not among it
abbrev refusal : Table → ℕ → ℕ → ℕ
refusal t k amount = cond (not (table_sound t)) 1 (cond (not (ltb k t.count)) 2 (cond (not (amount_sound amount)) 4 0))

at_station_lem : (t : Table) (k amount : ℕ) → refusal t k amount ≡ 0 → k < t.count
at_station_lem t k amount z = grind (arith, nat_tests)

module _ {t : Table} {H : List (Entry ℕ)} {plus minus : ℕ} (r : Reached t H plus minus) where
  draws_go : (k amount : ℕ) → StepGoes t (Draw k amount) H (what_is_there t (Draw k amount))
  unfolding built_with
  draws_go k amount =
      by_answer r (Draw k amount) (refusal t k amount) (few_or all_there t k amount)
      (grind (arith, nat_tests), grind (arith, nat_tests))
      (λ z.
      let h = at_station_lem t k amount z in
      chosen (StepGoes t (Draw k amount) H) (ltb (station_at t k).value amount) _ _
      (λ e. taken_goes r k amount (station_at t k).value h (omega arith)) (λ e. taken_goes r k amount amount h (ltb-false _ _ e)))

  goes : (step : Step) → StepGoes t step H (what_is_there t step)
  unfolding built_with step_of
  goes (Add k amount) = add_goes r k amount
  goes (Draw k amount) = draws_go k amount
  goes (Send from to) = send_goes r from to
  goes (Deliver p) = rw (delivers_right t (waiting_at t p)) (deliver_goes r p)
  goes (Lose p) = lose_goes r p

draws_keep : (t : Table) (k amount : ℕ) → table_sound t ≡ true → table_sound (what_is_there t (Draw k amount)).table ≡ true
unfolding built_with
draws_keep t k amount e =
    either_way (λ (s : Stepped). table_sound s.table ≡ true) (refusal t k amount) _ _
    (λ z.
    let h = at_station_lem t k amount z in
    chosen (λ (s : Stepped). table_sound s.table ≡ true) (ltb (station_at t k).value amount) _ _
    (λ f. table_whole _ (less_keeps (table_parts t e) k _ h (omega arith))) (λ f. table_whole _ (less_keeps (table_parts t e) k _ h (omega arith))))
    e

keeps : (t : Table) (step : Step) → table_sound t ≡ true → table_sound (what_is_there t step).table ≡ true
unfolding built_with step_of
keeps t (Add k amount) e = step_keeps t (Add k amount) e
keeps t (Draw k amount) e = draws_keep t k amount e
keeps t (Send from to) e = step_keeps t (Send from to) e
keeps t (Deliver p) e = rw (delivers_right t (waiting_at t p)) (step_keeps t (Deliver p) e)
keeps t (Lose p) e = step_keeps t (Lose p) e

pub what_is_there_keeps : (count : ℕ) → (fresh_table_of count).answer ≡ done → Demand3 what_is_there (fresh_table_of count).table
what_is_there_keeps = by_each_step (record { goes = goes; keeps = keeps })

-- station 0 has 5 and is asked for 6: done, and refused by 15
pub what_is_there_differs : let five = (step_of (fresh_table_of 2).table (Add 0 5)).table in what_is_there five (Draw 0 6) ≡ step_of five (Draw 0 6) → ⊥
unfolding written_out
what_is_there_differs e = eqb-false 0 15 refl (ap (λ (x : Stepped). x.answer) e)
