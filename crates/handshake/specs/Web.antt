-- All channels of a table at once, the messages that wait between them, and the history: what holds
-- at all times.
use Rattle.std.specs.Prelude.{ℕ, ◌<◌, ◌≡◌, cond, ◌&&◌, List, eqb, Option, None, Some}
use Rattle.handshake.specs.Channel.{Held, Channel, Event, quiet}
use Rattle.handshake.specs.Turn.{Turn}
use Rattle.handshake.specs.Clauses.{Standing, GiverShows, ReceiverShows, Spent}
use Rattle.handshake.specs.History.{transfer, Entry, departure, arrival, In, Pairing}
use Rattle.ground.specs.Sums.{sum_pairs}

-- the channel from each giver to each receiver
abbrev pub Web : Type 0 → Type 0 → Type 0
Web P Q = ℕ → ℕ → Channel P Q

-- what a message shows of its sender: both clocks, and its slot and its token for the receiver
pub record Letter (P Q : Type 0) : Type 0 where
  pub from : ℕ
  pub to : ℕ
  pub source : ℕ
  pub destination : ℕ
  pub slot : Option (Held Q)
  pub token : Option (Held P)

-- a letter is the giver's in one channel and the receiver's in the other
pub record LetterShows {P Q : Type 0} (W : Web P Q) (m : Letter P Q) : Type 0 where
  pub gives : GiverShows (W m.from m.to) m.source m.token
  pub asks : ReceiverShows (W m.to m.from) m.destination m.slot

pub record Holds {P Q : Type 0} (W : Web P Q) (Waits : Letter P Q → Type 0) (H : List (Entry P)) : Type 0 where
  pub standing : (g r : ℕ) → Standing (W g r)
  pub shown : (m : Letter P Q) → Waits m → LetterShows W m
  -- what departed has a source clock that its maker has passed
  pub departures : (g r : ℕ) (t : Held P) → In (departure (transfer g r t)) H → t.source < (W g r).source
  -- what arrived will not arrive again
  pub arrivals : (g r : ℕ) (t : Held P) → In (arrival (transfer g r t)) H → Spent (W g r) t.source t.destination
  -- a stored token once departed
  pub stored : (g r : ℕ) (t : Held P) → (W g r).token ≡ Some t → In (departure (transfer g r t)) H
  pub pairing : Pairing H

-- one channel makes a turn, and in every other at most the clocks rise
pub record Moves {P Q : Type 0} (W W' : Web P Q) (g r : ℕ) (e : Event P) : Type 0 where
  pub here : Turn (W g r) (W' g r) e
  pub elsewhere : (a b : ℕ) → (a ≡ g → b ≡ r → ⊥) → Turn (W a b) (W' a b) quiet

-- a letter that shows its sender as it is now
pub record Present {P Q : Type 0} (W : Web P Q) (m : Letter P Q) : Type 0 where
  pub source : m.source ≡ (W m.from m.to).source
  pub destination : m.destination ≡ (W m.to m.from).destination
  pub token : m.token ≡ (W m.from m.to).token
  pub slot : m.slot ≡ (W m.to m.from).slot

-- what of a station its rules can change when it takes a message: its clocks, and its slot and its
-- token for the sender
pub record End (P Q : Type 0) : Type 0 where
  pub source : ℕ
  pub destination : ℕ
  pub slot : Option (Held Q)
  pub token : Option (Held P)

-- the web with another end at station i, turned to station j
abbrev pub with_end : {P Q : Type 0} → Web P Q → ℕ → ℕ → End P Q → Web P Q
with_end W i j x g r =
    record {
      source = cond (eqb g i) x.source (W g r).source;
      destination = cond (eqb r i) x.destination (W g r).destination;
      token = cond (eqb g i && eqb r j) x.token (W g r).token;
      slot = cond (eqb r i && eqb g j) x.slot (W g r).slot;
    }

-- what is on the way in one channel, weighed by w
module _ {P Q : Type 0} (w : P → ℕ) where
  abbrev pub weigh : Option (Held P) → Option (Held Q) → ℕ
  weigh None l = 0
  weigh (Some t) None = 0
  weigh (Some t) (Some l) = cond (eqb t.source l.source && eqb t.destination l.destination) (w t.carried) 0

  abbrev pub weight : Channel P Q → ℕ
  weight c = weigh c.token c.slot

  -- and in all channels between n stations
  abbrev pub on_all_ways : Web P Q → ℕ → ℕ
  on_all_ways W n = sum_pairs (λ g r. weight (W g r)) n
