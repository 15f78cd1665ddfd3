-- What holds of a channel at all times: by itself, beside every message that still waits, and
-- beside all that ever departed or arrived.
use Rattle.std.specs.Prelude.{ℕ, ◌≤◌, ◌<◌, ◌≡◌, Option, None, Some}
use Rattle.handshake.specs.Channel.{Held, Channel}

-- the channel by itself: a stored token is older than both clocks; a slot is older than the
-- destination clock, and no newer than the source clock
pub record Standing {P Q : Type 0} (c : Channel P Q) : Type 0 where
  pub token_source : (t : Held P) → c.token ≡ Some t → t.source < c.source
  pub token_destination : (t : Held P) → c.token ≡ Some t → t.destination < c.destination
  pub slot_source : (l : Held Q) → c.slot ≡ Some l → l.source ≤ c.source
  pub slot_destination : (l : Held Q) → c.slot ≡ Some l → l.destination < c.destination

-- a message of the giver, which shows its source clock and its token
pub record GiverShows {P Q : Type 0} (c : Channel P Q) (clock : ℕ) (token : Option (Held P)) : Type 0 where
  pub clock_reached : clock ≤ c.source
  pub shown_source : (t : Held P) → token ≡ Some t → t.source < clock
  pub shown_destination : (t : Held P) → token ≡ Some t → t.destination < c.destination
  -- a shown token fits the slot that stands only while it is still the stored one
  pub fits_only_if_stored : (t : Held P) (l : Held Q) → token ≡ Some t → c.slot ≡ Some l → t.source ≡ l.source → t.destination ≡ l.destination
      → c.token ≡ Some t
  -- a stored token that is older than the shown clock was shown
  pub older_was_shown : (t : Held P) → c.token ≡ Some t → t.source < clock → token ≡ Some t

-- a message of the receiver, which shows its destination clock and its slot
pub record ReceiverShows {P Q : Type 0} (c : Channel P Q) (clock : ℕ) (slot : Option (Held Q)) : Type 0 where
  pub clock_reached : clock ≤ c.destination
  pub shown_destination : (k : Held Q) → slot ≡ Some k → k.destination < clock
  -- where no slot was shown, a slot that stands was opened later
  pub none_shown_newer : (l : Held Q) → c.slot ≡ Some l → slot ≡ None → clock ≤ l.destination
  -- where a slot was shown, a slot that stands is that one or was opened later
  pub one_shown_newer : (l k : Held Q) → c.slot ≡ Some l → slot ≡ Some k → k.destination ≤ l.destination
  -- a shown slot still stands until the giver's source clock has passed it
  pub stands_till_passed : (k : Held Q) → slot ≡ Some k → c.source ≤ k.source → c.slot ≡ Some k

-- two clocks for which no slot stands, and none will: the destination clock has passed
pub record Spent {P Q : Type 0} (c : Channel P Q) (source destination : ℕ) : Type 0 where
  pub passed : destination < c.destination
  pub no_slot : (l : Held Q) → c.slot ≡ Some l → l.source ≡ source → l.destination ≡ destination → ⊥
