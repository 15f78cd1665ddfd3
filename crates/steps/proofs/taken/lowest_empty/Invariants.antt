use Rattle.std.proofs.Common.{ℕ, ◌≤◌, ◌-◌, ◌≡◌, Bool, false, not, List, get_or}
use Rattle.ground.specs.First.{first_from}
use Rattle.steps.specs.Looking.{lowest_zero}
use Rattle.steps.proofs.taken.lowest_empty.Given as goal

abbrev test : List Bool → ℕ → Bool
test taken p = not (get_or taken p false)

abbrev pub invariant-loop-p : goal.invariant-loop-p
invariant-loop-p l = (l.p ≤ 64) × (first_from (test l.taken) (64 - l.p) l.p ≡ lowest_zero l.taken)

abbrev pub decreases-loop-p : goal.decreases-loop-p
decreases-loop-p l = 64 - l.p
