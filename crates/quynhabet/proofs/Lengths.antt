-- A station is 134 numbers. Assumes nothing.
use mathlib.Core.Path.{◌≡◌, refl}
use mathlib.Core.List.{◌++◌}
use lib.ListN.{length, length-append}
use Rattle.station.specs.declared.station.Station.{Station}
use Rattle.quynhabet.specs.Layout.{slot_numbers_at, token_numbers_at, slots_numbers, first_numbers, numbers_of}
use Rattle.ground.proofs.InTurn.{length_fours}

pub length_front : (s : Station) → length (first_numbers s ++ slots_numbers s) ≡ 70
length_front s = rw (length_fours (slot_numbers_at s) (λ k. refl) 16)

pub length_numbers : (s : Station) → length (numbers_of s) ≡ 134
unfolding numbers_of
length_numbers s = rw (length-append, length_fours (slot_numbers_at s) (λ k. refl) 16, length_fours (token_numbers_at s) (λ k. refl) 16)
