use Rattle.std.proofs.lemmas.Result.{err_from_is_err_and}
use Rattle.record.proofs.Fronts.{value_fault, fourth_fault, front_taken}
use Rattle.record.proofs.front.front_of.Goals as goal

pub returns-then-value-gt-MOST_VALUE : goal.returns-then-value-gt-MOST_VALUE
returns-then-value-gt-MOST_VALUE c =
    value_fault _ _ c.in_ok-ends.ensures _ c.in_ok-clocks.ensures _ c.number_at-value.ensures.number c.if-value-gt-MOST_VALUE.true

pub returns-in_err-at : goal.returns-in_err-at
returns-in_err-at c =
    let p = err_from_is_err_and c.from_residual-in_err-at.result c.from_residual-in_err-at.ensures.1 in
    rw (p.1, p.2)
    (fourth_fault _ _ c.in_ok-ends.ensures _ c.in_ok-clocks.ensures _ c.number_at-value.ensures.number c.if-value-gt-MOST_VALUE.false _ c.in_err-at.ensures)

pub returns : goal.returns
returns c =
    front_taken _ _ c.in_ok-ends.ensures _ c.in_ok-clocks.ensures _ c.number_at-value.ensures.number c.if-value-gt-MOST_VALUE.false _ c.in_ok-at.ensures _ _ c.clock_at.ensures c.clock_at-2.ensures
