-- A clock before its end goes on by one. Assumes nothing.
use Prim.Native.Nat.{◌+◌}
use mathlib.Core.Path.{◌≡◌}
use mathlib.Core.Bool.{true}
use Rattle.ground.specs.declared.clocks.SourceClock.{SourceClock}
use Rattle.ground.specs.declared.clocks.DestinationClock.{DestinationClock}
use Rattle.ground.specs.Clocks.{source_before_end, source_next, destination_before_end, destination_next}

pub source_next_lem : (k : SourceClock) → source_before_end k ≡ true → (source_next k).0 ≡ k.0 + 1
source_next_lem k e = rw e

pub destination_next_lem : (k : DestinationClock) → destination_before_end k ≡ true → (destination_next k).0 ≡ k.0 + 1
destination_next_lem k e = rw e
