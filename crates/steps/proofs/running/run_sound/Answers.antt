-- One turn of the loop: what was looked up, what the plan changed, and the flags kept beside it.
use Rattle.std.proofs.Common.{◌≡◌, ◌<◌, sym, ◌∙◌, rules}
use Rattle.steps.specs.Looking.{flags_of}
use Rattle.steps.specs.Planning.{changed}
use Rattle.steps.proofs.Flags.{flags_put}
use Rattle.steps.proofs.Looks.{place_changed}
use Rattle.steps.proofs.Turns.{turn, ended, found}
use Rattle.steps.proofs.running.run_sound.Goals.{in-Nothing, in-AtStock, in-AtSide, in-AtPlace}
use Rattle.steps.proofs.running.run_sound.Goals as goal

pub loop-n-preserved : goal.loop-n-preserved
loop-n-preserved c =
    let at = c.loop-n in
    let t = at.table in
    let asked = c.asked_by-asked.result in
    let k = c.seat_looked_at-seat.result.station in
    let j = c.seat_looked_at-seat.result.peer in
    let plan = c.plan_at-plan.result in
    let next = c.match-plan.table in
    -- what the plan changes was changed
    let stored : next ≡ changed t k j plan.change =
    elim c.match-plan.branch [
      | in-Nothing w ↦ w.table-is ∙ rw w.in-Nothing.is
      | in-AtStock w ↦ w.table-is ∙ rw (w.in-AtStock.is, w.put_stock.ensures)
      | in-AtSide w ↦ w.table-is ∙ rw (w.in-AtSide.is, w.put_side.ensures)
      | in-AtPlace w ↦ w.table-is ∙ rw w.in-AtPlace.is
    ] in
    let flagged : c.match-plan.taken ≡ flags_of next.pool =
    elim c.match-plan.branch [
      | in-Nothing w ↦ rw (w.taken-is, w.table-is) at.invariant.flags
      | in-AtStock w ↦ rw (w.taken-is, w.table-is) at.invariant.flags
      | in-AtSide w ↦ rw (w.taken-is, w.table-is) at.invariant.flags
      | in-AtPlace w ↦ rw (w.taken-is, w.table-is, w.is_some.ensures, at.invariant.flags) (sym (flags_put t.pool _ _))
    ] in
    let step =
    found t asked plan at.invariant.sound at.invariant.flags c.place_looked_at.ensures c.free_for-free.ensures c.seat_looked_at-seat.ensures c.side_looked_at-x.ensures c.plan_at-plan.ensures stored in
    turn at.invariant _ c.loop-n-test.true c.asked_by-asked.ensures step c.put_told.ensures flagged

pub returns : goal.returns
returns c = ended c.loop-n.invariant c.loop-n-test.false

-- a place that a plan changes is there
pub bounds-table-p : goal.bounds-table-p
bounds-table-p c = search (rules, place_changed)

pub offset_bounds-table-p : goal.offset_bounds-table-p
offset_bounds-table-p c = let there : c.in-AtPlace.p < 64 = search (rules, place_changed) in search rules
