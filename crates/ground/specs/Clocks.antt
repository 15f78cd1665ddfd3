-- The two clocks: in range, one beside another of its kind, one step on.
use Rattle.std.specs.Prelude.{ℕ, ◌+◌, Bool, cond, eqb, ltb, leb}
use Rattle.ground.specs.declared.clocks.SourceClock.{SourceClock}
use Rattle.ground.specs.declared.clocks.DestinationClock.{DestinationClock}
use Rattle.ground.specs.Limits.{last_clock}

abbrev pub clock_sound : ℕ → Bool
clock_sound k = leb k last_clock

abbrev pub source_in_range : SourceClock → Bool
source_in_range k = clock_sound k.0

abbrev pub destination_in_range : DestinationClock → Bool
destination_in_range k = clock_sound k.0

abbrev pub source_above : SourceClock → SourceClock → Bool
source_above k other = ltb other.0 k.0

abbrev pub destination_above : DestinationClock → DestinationClock → Bool
destination_above k other = ltb other.0 k.0

abbrev pub source_same : SourceClock → SourceClock → Bool
source_same k other = eqb k.0 other.0

abbrev pub destination_same : DestinationClock → DestinationClock → Bool
destination_same k other = eqb k.0 other.0

abbrev pub source_before_end : SourceClock → Bool
source_before_end k = ltb k.0 last_clock

abbrev pub destination_before_end : DestinationClock → Bool
destination_before_end k = ltb k.0 last_clock

-- one step on; at its end a clock stays
abbrev pub source_next : SourceClock → SourceClock
source_next k = cond (source_before_end k) (record { 0 = k.0 + 1 }) k

abbrev pub destination_next : DestinationClock → DestinationClock
destination_next k = cond (destination_before_end k) (record { 0 = k.0 + 1 }) k
