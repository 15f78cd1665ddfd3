-- The record that document 01 prints, byte by byte. Assumes nothing.
use Rattle.std.proofs.Common.{None}
use mathlib.Core.Path.{◌≡◌, refl}
use mathlib.Core.List.{[], ◌∷◌}
use Rattle.record.specs.Numbers.{big}
use Rattle.record.specs.Fields.{bytes_of}
use Rattle.record.specs.Dateless.{record_of}

-- station 0 with value 10 tells station 1, with fresh clocks and nothing held
pub printed : record_of (record { from = 0; to = 1; value = 10; source = record { 0 = 0 }; destination = record { 0 = 0 }; slot = None; token = None })
    ≡ 1 ∷ 0 ∷ 1 ∷ 0 ∷ 2 ∷ 0 ∷ 1 ∷ 1 ∷ 3 ∷ 0 ∷ 8 ∷ 0 ∷ 0 ∷ 0 ∷ 0 ∷ 0 ∷ 0 ∷ 0 ∷ 10 ∷ 4 ∷ 0 ∷ 8 ∷ 0 ∷ 0 ∷ 0 ∷ 0 ∷ 0 ∷ 0 ∷ 0 ∷ 0 ∷ []
unfolding record_of bytes_of big
printed = refl
