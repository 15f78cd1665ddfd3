use Prim.Native.Nat.{◌≤◌}
use mathlib.Core.Path.{◌≡◌}
use lib.ListN.{length}
use lib.Seq.{sets}
use Rattle.script.specs.Decimal.{decimal}
use Rattle.script.proofs.printing.put_decimal.Given as goal

-- what is still to be stored, stored now, gives the end result
abbrev pub invariant-loop-rest : goal.invariant-loop-rest
invariant-loop-rest l = (l.rest ≤ l.n) × (length l.out ≡ length l.initial.out) × (l.k ≡ length (decimal l.rest)) × (sets l.out l.at (decimal l.rest) ≡ sets l.initial.out l.at (decimal l.n))

abbrev pub decreases-loop-rest : goal.decreases-loop-rest
decreases-loop-rest l = l.rest
