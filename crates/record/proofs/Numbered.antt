-- No fault has the number that says done. Assumes nothing.
use mathlib.Core.Path.{◌≡◌}
use native.Mathlib.Omega.{arith}
use Rattle.ground.specs.Answers.{done}
use Rattle.record.specs.declared.faults.FaultKind.{FaultKind}
use Rattle.record.specs.declared.faults.FaultKind.TheVariants.{Cut, OtherTag, OtherLength, UnsoundNumber, Extra}
use Rattle.record.specs.Faults.{fault_number}

pub fault_not_done : (kind : FaultKind) → fault_number kind ≡ done → ⊥
fault_not_done Cut e = omega arith
fault_not_done OtherTag e = omega arith
fault_not_done OtherLength e = omega arith
fault_not_done UnsoundNumber e = omega arith
fault_not_done Extra e = omega arith
