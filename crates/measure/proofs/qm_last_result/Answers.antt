use Rattle.std.proofs.Common.{refl, sym, ◌∙◌, arith, Some, None}
use Rattle.std.specs.Slice.Iter.{chunks_exact_rest}
use Rattle.steps.specs.Running.{asked_step}
use Rattle.measure.proofs.Lasts.{result_next, result_ended}
use Rattle.measure.proofs.qm_last_result.Goals as goal

pub loop-three-init : goal.loop-three-init
loop-three-init c =
    let iterator = c.into_iter-three-iterator.ensures.into_iter_gives in
    let made = c.chunks_exact-three-items.ensures in
    record { threes = rw iterator made.size; so_far = rw (iterator, made.rest, c.fresh_table.ensures) }

pub loop-three-preserved-in_default : goal.loop-three-preserved-in_default
loop-three-preserved-in_default c =
    let at = c.loop-three in
    let went = c.in-Some.ensures.steps in
    record {
      threes = went.0 ∙ at.invariant.threes;
      so_far =
          result_next at.t at.last c.in-Some.three.now (chunks_exact_rest c.next.new.self) None (asked_step at.t None) at.invariant.so_far
          went.1.0
          (went.1.1 ∙ at.invariant.threes)
          (sym c.in_default.is ∙ c.asked_by.ensures)
          refl;
    }

pub loop-three-preserved : goal.loop-three-preserved
loop-three-preserved c =
    let at = c.loop-three in
    let went = c.in-Some.ensures.steps in
    record {
      threes = went.0 ∙ at.invariant.threes;
      so_far =
          result_next at.t at.last c.in-Some.three.now (chunks_exact_rest c.next.new.self) (Some c.in-Some-asked_by.step) c.step-done.result at.invariant.so_far
          went.1.0
          (went.1.1 ∙ at.invariant.threes)
          (sym c.in-Some-asked_by.is ∙ c.asked_by.ensures)
          c.step-done.ensures;
    }

pub returns : goal.returns
returns c =
    let at = c.loop-three in
    let ended = c.in-None.ensures.steps in
    result_ended at.t at.last (chunks_exact_rest at.three-iterator) (omega (arith, ended.1.0, at.invariant.threes)) at.invariant.so_far
