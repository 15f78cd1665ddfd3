-- The faults of a record, each with its number.
use Rattle.std.specs.Prelude.{ℕ}
use Rattle.record.specs.declared.faults.FaultKind.{FaultKind}
use Rattle.record.specs.declared.faults.FaultKind.TheVariants.{Cut, OtherTag, OtherLength, UnsoundNumber, Extra}

abbrev pub fault_number : FaultKind → ℕ
-- the bytes end within a field
fault_number Cut = 20
-- another field than one that may stand here
fault_number OtherTag = 21
-- a length that is not the field's
fault_number OtherLength = 22
-- a number out of range, or not sound with what was read before
fault_number UnsoundNumber = 23
-- bytes after the last field that may stand
fault_number Extra = 24
