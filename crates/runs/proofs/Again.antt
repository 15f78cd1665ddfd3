-- A second delivery of the same place acts, so a build that handles the first delivery of a message
-- and then only nods is not what is promised.
-- Assumes nothing.
use Rattle.std.proofs.Common.{Some}
use mathlib.Core.Path.{◌≡◌, refl, ap, sym}
use mathlib.Core.Bool.{false≢true}
use Rattle.steps.specs.Steps.{step_of}
use Rattle.table.specs.Table.{station_at, waiting_at}
use Rattle.steps.specs.declared.asked.Step.TheVariants.{Deliver}
use Rattle.table.specs.declared.stepped.Stepped.{Stepped}
use Rattle.table.specs.declared.table.Table.{Table}
use Rattle.runs.specs.Again.{ten_shown, at_first, at_again, opens, nod}
use Rattle.runs.proofs.WrittenOut.{written_out}

-- the message at place 0 opens a slot of 5 where it is delivered first, and one of 2 where it is
-- delivered again
pub record ActsAgain (first again : Table) : Type 0 where
  pub first_message : waiting_at first 0 ≡ Some ten_shown
  pub first_report : (step_of first (Deliver 0)).report ≡ opens 5
  pub again_message : waiting_at again 0 ≡ Some ten_shown
  pub again_answer : (step_of again (Deliver 0)).answer ≡ 0
  pub again_report : (step_of again (Deliver 0)).report ≡ opens 2
  pub again_clock : (station_at (step_of again (Deliver 0)).table 1).destination.0 ≡ 2
  pub no_nod : step_of again (Deliver 0) ≡ nod again → ⊥

pub acts_again : ActsAgain at_first at_again
unfolding written_out
acts_again =
    record {
      first_message = refl;
      first_report = refl;
      again_message = refl;
      again_answer = refl;
      again_report = refl;
      again_clock = refl;
      no_nod = λ e. false≢true (sym (ap (λ (x : Stepped). x.report.rule3) e));
    }
