-- A side with one part put anew.
use Rattle.std.specs.Prelude.{ℕ, Option}
use Rattle.rules.specs.declared.held.Token.{Token}
use Rattle.rules.specs.declared.held.Slot.{Slot}
use Rattle.ground.specs.declared.clocks.SourceClock.{SourceClock}
use Rattle.ground.specs.declared.clocks.DestinationClock.{DestinationClock}
use Rattle.rules.specs.declared.side.Side.{Side}

abbrev pub put_value : Side → ℕ → Side
put_value x v = record { value = v; source = x.source; destination = x.destination; slot = x.slot; token = x.token }

abbrev pub put_source : Side → SourceClock → Side
put_source x k = record { value = x.value; source = k; destination = x.destination; slot = x.slot; token = x.token }

abbrev pub put_destination : Side → DestinationClock → Side
put_destination x k = record { value = x.value; source = x.source; destination = k; slot = x.slot; token = x.token }

abbrev pub put_slot : Side → Option Slot → Side
put_slot x h = record { value = x.value; source = x.source; destination = x.destination; slot = h; token = x.token }

abbrev pub put_token : Side → Option Token → Side
put_token x h = record { value = x.value; source = x.source; destination = x.destination; slot = x.slot; token = h }
