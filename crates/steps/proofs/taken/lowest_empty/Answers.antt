use Rattle.std.proofs.Common.{ℕ, ◌-◌, ◌+◌, ◌≡◌, sym, ◌∙◌, ap, Bool, false, not, List, get_or, arith}
use Rattle.ground.proofs.First.{first_none, first_here, first_later}
use Rattle.steps.proofs.taken.lowest_empty.Goals as goal

abbrev test : List Bool → ℕ → Bool
test taken p = not (get_or taken p false)

pub loop-p-preserved : goal.loop-p-preserved
loop-p-preserved c =
    let at = c.loop-p in
    let taken = c.args.taken.now in (
      omega arith,
      sym (first_later (test taken) (64 - at.p) (64 - (at.p + 1)) at.p (omega arith) (ap not c.if-not-taken-p.false)) ∙ at.invariant.1,
    )

pub returns-then-p-ge-MOST_PLACES : goal.returns-then-p-ge-MOST_PLACES
returns-then-p-ge-MOST_PLACES c =
    let at = c.loop-p in
    let taken = c.args.taken.now in
    let e : 64 ≡ at.p = omega arith in
    e ∙ sym (first_none (test taken) (64 - at.p) at.p (omega arith)) ∙ at.invariant.1

pub returns-then-not-taken-p : goal.returns-then-not-taken-p
returns-then-not-taken-p c =
    let at = c.loop-p in
    let taken = c.args.taken.now in
    sym (first_here (test taken) (64 - at.p) (64 - (at.p + 1)) at.p (omega arith) (ap not c.if-not-taken-p.true)) ∙ at.invariant.1
