-- One channel, from a giver to a receiver: two clocks, a token and a slot. What a token carries is
-- any P, and what a slot asks for any Q.
use Rattle.std.specs.Prelude.{ℕ, ◌≡◌, Option, Some}

-- a slot or a token
pub record Held (P : Type 0) : Type 0 where
  pub source : ℕ
  pub destination : ℕ
  pub carried : P

-- the giver's source clock and its token for the receiver; the receiver's destination clock and its
-- slot for the giver
pub record Channel (P Q : Type 0) : Type 0 where
  pub source : ℕ
  pub destination : ℕ
  pub token : Option (Held P)
  pub slot : Option (Held Q)

-- a token is on the way while its destination has a slot for its maker with both clocks the same
pub record OnTheWay {P Q : Type 0} (c : Channel P Q) (t : Held P) : Type 0 where
  pub slot : Held Q
  pub stored : c.token ≡ Some t
  pub stands : c.slot ≡ Some slot
  pub source : t.source ≡ slot.source
  pub destination : t.destination ≡ slot.destination

-- what a turn of a channel can bring: nothing, a departure (a token made) or an arrival (a fill)
pub data Event (P : Type 0) : Type 0 where
  quiet : Event P
  departs : Held P → Event P
  arrives : Held P → Event P
