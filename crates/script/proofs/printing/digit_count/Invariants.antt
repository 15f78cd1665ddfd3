use Prim.Native.Nat.{◌+◌, ◌≤◌}
use mathlib.Core.Path.{◌≡◌}
use lib.ListN.{length}
use Rattle.script.specs.Decimal.{decimal}
use Rattle.script.proofs.printing.digit_count.Given as goal

-- what is counted and what is still to be counted is one more than all, since the last digit is in
-- both
abbrev pub invariant-loop-rest : goal.invariant-loop-rest
invariant-loop-rest l = (l.rest ≤ l.n) × (l.count + length (decimal l.rest) ≡ 1 + length (decimal l.n))

abbrev pub decreases-loop-rest : goal.decreases-loop-rest
decreases-loop-rest l = l.rest
