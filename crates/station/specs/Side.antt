-- The part of a station that the five rules see when it takes a message, and a station with that
-- part put back.
use Rattle.std.specs.Prelude.{ℕ, set}
use Rattle.station.specs.declared.station.Station.{Station}
use Rattle.rules.specs.declared.side.Side.{Side}
use Rattle.station.specs.Held.{slot_for, token_for}

-- the side of station s that is turned to station k
abbrev pub side_for : Station → ℕ → Side
side_for s k = record { value = s.value; source = s.source; destination = s.destination; slot = slot_for s k; token = token_for s k }

-- the same station with that side put anew
abbrev pub put_side : Station → ℕ → Side → Station
put_side s k x =
    record {
      number = s.number;
      count = s.count;
      value = x.value;
      intake = s.intake;
      source = x.source;
      destination = x.destination;
      slots = set s.slots k (record { held = x.slot });
      tokens = set s.tokens k (record { held = x.token });
    }
