-- What the theory of the handshake sees of a table: of a slot, a token, a side, a message, and of
-- all stations. Assumes nothing.
use Rattle.std.proofs.Common.{Option, Some, None, option_map}
use Prim.Native.Nat.{ℕ}
use mathlib.Core.Bool.{Bool, true, false}
use Rattle.rules.specs.declared.held.Token.{Token}
use Rattle.rules.specs.declared.held.Slot.{Slot}
use Rattle.handshake.specs.Channel.{Held, Channel, Event, quiet, departs, arrives}
use Rattle.handshake.specs.Web.{Web, End, Letter}
use Rattle.station.specs.Held.{slot_for, token_for}
use Rattle.rules.specs.declared.message.Message.{Message}
use Rattle.rules.specs.declared.side.Side.{Side}
use Rattle.station.specs.declared.station.Station.{Station}
use Rattle.table.specs.Table.{station_at}
use Rattle.table.specs.declared.table.Table.{Table}
use Rattle.runs.specs.Runs.{amounting}

abbrev pub slot_seen : Option Slot → Option (Held ℕ)
slot_seen = option_map (λ l. amounting l.source.0 l.destination.0 l.quantity)

abbrev pub token_seen : Option Token → Option (Held ℕ)
token_seen = option_map (λ t. amounting t.source.0 t.destination.0 t.quantity)

-- the channel from each station to each other
abbrev pub channel_of : Station → Station → ℕ → ℕ → Channel ℕ ℕ
channel_of giver receiver g r =
    record {
      source = giver.source.0;
      destination = receiver.destination.0;
      token = token_seen (token_for giver r);
      slot = slot_seen (slot_for receiver g);
    }

abbrev pub web_of : Table → Web ℕ ℕ
web_of t g r = channel_of (station_at t g) (station_at t r) g r

abbrev pub end_of : Side → End ℕ ℕ
end_of x = record { source = x.source.0; destination = x.destination.0; slot = slot_seen x.slot; token = token_seen x.token }

abbrev pub letter_of : Message → Letter ℕ ℕ
letter_of m =
    record {
      from = m.from;
      to = m.to;
      source = m.source.0;
      destination = m.destination.0;
      slot = slot_seen m.slot;
      token = token_seen m.token;
    }

-- a side as the receiver's end of one channel, beside what its giver has, and as the giver's end of
-- the other
abbrev pub inward : Side → ℕ → Option (Held ℕ) → Channel ℕ ℕ
inward x source token = record { source = source; destination = x.destination.0; token = token; slot = slot_seen x.slot }

abbrev pub outward : Side → ℕ → Option (Held ℕ) → Channel ℕ ℕ
outward x destination slot = record { source = x.source.0; destination = destination; token = token_seen x.token; slot = slot }

-- what a fill, and a token made, are to the channel
abbrev pub arrives_by : Option Token → Bool → ℕ → Event ℕ
arrives_by (Some t) true amount = arrives (amounting t.source.0 t.destination.0 amount)
arrives_by (Some t) false amount = quiet
arrives_by None acted amount = quiet

abbrev pub departs_by : Option Slot → Bool → ℕ → Event ℕ
departs_by (Some l) true amount = departs (amounting l.source.0 l.destination.0 amount)
departs_by (Some l) false amount = quiet
departs_by None acted amount = quiet
