-- The five rules of receiving. x is station i's side for station j, and m is the message from j.
use Rattle.std.specs.Prelude.{ℕ, ◌+◌, ◌-◌, min, Bool, true, false, cond, ◌&&◌, eqb, ltb, leb, Option, Some, None}
use Rattle.ground.specs.declared.clocks.DestinationClock.{DestinationClock}
use Rattle.rules.specs.declared.held.Slot.{Slot}
use Rattle.rules.specs.declared.held.Token.{Token}
use Rattle.rules.specs.declared.message.Message.{Message}
use Rattle.rules.specs.declared.side.Side.{Side}
use Rattle.rules.specs.declared.rules.Ruled.{Ruled}
use Rattle.ground.specs.Limits.{last_clock}
use Rattle.ground.specs.Clocks.{source_next, destination_next}
use Rattle.rules.specs.Half.{half_above}
use Rattle.rules.specs.Side.{put_value, put_source, put_destination, put_slot, put_token}

-- a rule that acts, with its quantity, and one that does not
abbrev pub acts : ℕ → Side → Ruled
acts q x = record { acted = true; quantity = q; side = x }

abbrev pub rests : Side → Ruled
rests x = record { acted = false; quantity = 0; side = x }

-- both clocks agree pairwise
abbrev pub agree : Token → Slot → Bool
agree t l = eqb t.source.0 l.source.0 && eqb t.destination.0 l.destination.0

-- 1. Fill: m has a token, i has a slot for j, and their clocks agree: the quantity goes to i's
-- value, the slot goes.
abbrev pub fill_by : Side → Option Token → Option Slot → Ruled
fill_by x (Some t) (Some l) = cond (agree t l) (acts t.quantity (put_slot (put_value x (x.value + t.quantity)) None)) (rests x)
fill_by x (Some t) None = rests x
fill_by x None h = rests x

abbrev pub fill : Side → Message → Ruled
fill x m = fill_by x m.token x.slot

-- 2. Drop slot: i still has a slot for j, and m's source clock is above the slot's: the slot goes.
abbrev pub drop_slot_by : Side → Message → Option Slot → Ruled
drop_slot_by x m (Some l) = cond (ltb l.source.0 m.source.0) (acts 0 (put_slot x None)) (rests x)
drop_slot_by x m None = rests x

abbrev pub drop_slot : Side → Message → Ruled
drop_slot x m = drop_slot_by x m x.slot

-- 3. Open slot: i has no slot for j, and h, half of m's value less i's, is at least 1: a slot with
-- m's source clock, i's destination clock and h; i's destination clock goes up by 1. Not where that
-- clock is at its end.
abbrev pub open_slot_by : Side → Message → ℕ → Option Slot → Ruled
open_slot_by x m h None =
    cond (leb 1 h && ltb x.destination.0 last_clock)
    (acts h
    (put_destination (put_slot x (Some (record { source = m.source; destination = x.destination; quantity = h }))) (destination_next x.destination)))
    (rests x)
open_slot_by x m h (Some l) = rests x

abbrev pub open_slot : Side → Message → Ruled
open_slot x m = open_slot_by x m (half_above m.value x.value) x.slot

-- the clock that rule 4 goes by
abbrev pub destination_shown_by : Message → Option Slot → DestinationClock
destination_shown_by m (Some l) = l.destination
destination_shown_by m None = m.destination

abbrev pub destination_shown : Message → DestinationClock
destination_shown m = destination_shown_by m m.slot

-- 4. Drop token: i has a token for j, and the destination clock of m's slot if it has one, else m's
-- own, is above the token's: the token goes.
abbrev pub drop_token_by : Side → DestinationClock → Option Token → Ruled
drop_token_by x shown (Some t) = cond (ltb t.destination.0 shown.0) (acts 0 (put_token x None)) (rests x)
drop_token_by x shown None = rests x

abbrev pub drop_token : Side → Message → Ruled
drop_token x m = drop_token_by x (destination_shown m) x.token

-- 5. Make token: m has a slot whose source clock equals i's: q, the smaller of i's value and the
-- slot's quantity, leaves i's value; i's token for j becomes the slot's two clocks with q; i's
-- source clock goes up by 1. Not where that clock is at its end.
abbrev pub give : Side → Slot → ℕ → Side
give x l q =
    put_source (put_token (put_value x (x.value - q)) (Some (record { source = l.source; destination = l.destination; quantity = q })))
    (source_next x.source)

abbrev pub make_token_by : Side → Option Slot → Ruled
make_token_by x (Some l) =
    cond (eqb l.source.0 x.source.0 && ltb x.source.0 last_clock)
    (acts (min x.value l.quantity) (give x l (min x.value l.quantity)))
    (rests x)
make_token_by x None = rests x

abbrev pub make_token : Side → Message → Ruled
make_token x m = make_token_by x m.slot
