-- Wrong outcomes of the two clocks, of a half and of a refusal's number.
use Rattle.std.specs.Prelude.{List, [], ◌∷◌, pos, negsuc}
use Rattle.ground.specs.Clocks.{source_in_range, source_above, source_same, source_before_end, source_next, destination_in_range, destination_above, destination_same, destination_before_end, destination_next}
use Rattle.ground.specs.Half.{half_of}
use Rattle.ground.specs.Limits.{last_clock}
use Rattle.ground.specs.declared.refusal.Refusal.TheVariants.{NotSound, TooFew}
use Rattle.ground.specs.Tested.{number_of}
use Rattle.demands.specs.Samples.{truth}
use Rattle.demands.specs.Wrong.{Wrong}

abbrev pub wrong_ground : List Wrong
wrong_ground =
    -- in_range of either clock: refuses the last number; refuses 0
    record { promised = truth (source_in_range (record { 0 = last_clock })); wrong = 0 ∷ [] }
    ∷ record { promised = truth (source_in_range (record { 0 = 0 })); wrong = 0 ∷ [] }
    ∷ record { promised = truth (destination_in_range (record { 0 = last_clock })); wrong = 0 ∷ [] }
    ∷ record { promised = truth (destination_in_range (record { 0 = 0 })); wrong = 0 ∷ [] }
    -- is_above of either clock: holds of the same number; looks the other way
    ∷ record { promised = truth (source_above (record { 0 = 5 }) (record { 0 = 5 })); wrong = 1 ∷ [] }
    ∷ record { promised = truth (source_above (record { 0 = 5 }) (record { 0 = 6 })); wrong = 1 ∷ [] }
    ∷ record { promised = truth (destination_above (record { 0 = 5 }) (record { 0 = 5 })); wrong = 1 ∷ [] }
    ∷ record { promised = truth (destination_above (record { 0 = 5 }) (record { 0 = 6 })); wrong = 1 ∷ [] }
    -- equals of either clock: holds of every number; of none
    ∷ record { promised = truth (source_same (record { 0 = 5 }) (record { 0 = 6 })); wrong = 1 ∷ [] }
    ∷ record { promised = truth (source_same (record { 0 = 5 }) (record { 0 = 5 })); wrong = 0 ∷ [] }
    ∷ record { promised = truth (destination_same (record { 0 = 5 }) (record { 0 = 6 })); wrong = 1 ∷ [] }
    ∷ record { promised = truth (destination_same (record { 0 = 5 }) (record { 0 = 5 })); wrong = 0 ∷ [] }
    -- before_end of either clock: holds at the end; not just before it
    ∷ record { promised = truth (source_before_end (record { 0 = last_clock })); wrong = 1 ∷ [] }
    ∷ record { promised = truth (source_before_end (record { 0 = 4294967294 })); wrong = 0 ∷ [] }
    ∷ record { promised = truth (destination_before_end (record { 0 = last_clock })); wrong = 1 ∷ [] }
    ∷ record { promised = truth (destination_before_end (record { 0 = 4294967294 })); wrong = 0 ∷ [] }
    -- next of either clock: stays; goes on at the end, or from there begins anew
    ∷ record { promised = (source_next (record { 0 = 5 })).0 ∷ []; wrong = 5 ∷ [] }
    ∷ record { promised = (source_next (record { 0 = last_clock })).0 ∷ []; wrong = 4294967296 ∷ [] }
    ∷ record { promised = (source_next (record { 0 = last_clock })).0 ∷ []; wrong = 0 ∷ [] }
    ∷ record { promised = (destination_next (record { 0 = 5 })).0 ∷ []; wrong = 5 ∷ [] }
    ∷ record { promised = (destination_next (record { 0 = last_clock })).0 ∷ []; wrong = 4294967296 ∷ [] }
    ∷ record { promised = (destination_next (record { 0 = last_clock })).0 ∷ []; wrong = 0 ∷ [] }
    -- half: rounds up; halves what is below 0 too
    ∷ record { promised = half_of (pos 5) ∷ []; wrong = 3 ∷ [] }
    ∷ record { promised = half_of (negsuc 3) ∷ []; wrong = 2 ∷ [] }
    -- number: begins at 0; is one less
    ∷ record { promised = number_of NotSound ∷ []; wrong = 0 ∷ [] }
    ∷ record { promised = number_of TooFew ∷ []; wrong = 14 ∷ [] }
    ∷ []
