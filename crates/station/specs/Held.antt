-- What a station holds for a peer.
use Rattle.std.specs.Prelude.{ℕ, get_or, Option, None}
use Rattle.rules.specs.declared.held.Token.{Token}
use Rattle.rules.specs.declared.held.Slot.{Slot}
use Rattle.station.specs.declared.held.PeerCell.{PeerCell}
use Rattle.station.specs.declared.station.Station.{Station}

-- a place that holds nothing
abbrev pub no_slot : PeerCell Slot
no_slot = record { held = None }

abbrev pub no_token : PeerCell Token
no_token = record { held = None }

-- the slot and the token that station s has for station k
abbrev pub slot_for : Station → ℕ → Option Slot
slot_for s k = (get_or s.slots k no_slot).held

abbrev pub token_for : Station → ℕ → Option Token
token_for s k = (get_or s.tokens k no_token).held
