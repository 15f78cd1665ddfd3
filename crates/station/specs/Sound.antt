-- When a station is sound, and when a message is.
use Rattle.std.specs.Prelude.{ℕ, Bool, true, false, ◌&&◌, ◌||◌, not, ltb, leb, eqb, Option, Some, None}
use Rattle.rules.specs.declared.held.Token.{Token}
use Rattle.rules.specs.declared.held.Slot.{Slot}
use Rattle.ground.specs.declared.clocks.SourceClock.{SourceClock}
use Rattle.ground.specs.declared.clocks.DestinationClock.{DestinationClock}
use Rattle.station.specs.declared.station.Station.{Station}
use Rattle.rules.specs.declared.message.Message.{Message}
use Rattle.ground.specs.Limits.{least_stations, most_stations, most_intake, most_value}
use Rattle.ground.specs.Clocks.{clock_sound}
use Rattle.station.specs.Held.{slot_for, token_for}
use Rattle.ground.specs.Below.{all_below}

-- a slot's quantity is at least 1, and its destination clock is below its holder's
abbrev pub slot_sound : Option Slot → DestinationClock → Bool
slot_sound None clock = true
slot_sound (Some l) clock = leb 1 l.quantity && leb l.quantity most_value && (clock_sound l.source.0 && ltb l.destination.0 clock.0)

-- a token's quantity may be 0, and its source clock is below its maker's
abbrev pub token_sound : Option Token → SourceClock → Bool
token_sound None clock = true
token_sound (Some t) clock = leb t.quantity most_value && (clock_sound t.destination.0 && ltb t.source.0 clock.0)

-- neither a slot nor a token
abbrev pub holds_nothing : Option Slot → Option Token → Bool
holds_nothing None None = true
holds_nothing None (Some t) = false
holds_nothing (Some l) t = false

-- station k is another station of the table
abbrev pub is_peer : Station → ℕ → Bool
is_peer s k = not (eqb k s.number) && ltb k s.count

-- what station s holds for k: nothing for itself or for a number not below the count
abbrev pub cells_sound : Station → ℕ → Bool
cells_sound s k =
    slot_sound (slot_for s k) s.destination && token_sound (token_for s k) s.source && (is_peer s k || holds_nothing (slot_for s k) (token_for s k))

abbrev pub count_sound : ℕ → Bool
count_sound n = leb least_stations n && leb n most_stations

unfoldable pub station_sound : Station → Bool
station_sound s =
    count_sound s.count && ltb s.number s.count && leb s.value most_value && leb s.intake most_intake
    && (clock_sound s.source.0 && clock_sound s.destination.0) && all_below (cells_sound s) most_stations

unfoldable pub message_sound : Message → Bool
message_sound m =
    leb m.from 15 && leb m.to 15 && not (eqb m.from m.to) && leb m.value most_value && (clock_sound m.source.0 && clock_sound m.destination.0)
    && slot_sound m.slot m.destination && token_sound m.token m.source
