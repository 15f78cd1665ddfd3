-- A turn of a channel: what any rule of receiving, at either end, may do to it. All that the theory
-- asks of a family of stations is that its rules are turns.
use Rattle.std.specs.Prelude.{◌≤◌, ◌<◌, ◌≡◌, ◌⊎◌, None, Some}
use Rattle.handshake.specs.Channel.{Held, Channel, OnTheWay, Event, quiet, departs, arrives}

-- a slot opened in this turn: with the receiver's destination clock, which advances, and a source
-- clock that the giver has reached
pub record Opened {P Q : Type 0} (c c' : Channel P Q) (l : Held Q) : Type 0 where
  pub source : l.source ≤ c.source
  pub own_clock : c.destination ≤ l.destination
  pub advanced : l.destination < c'.destination

-- a departure: nothing was on the way, the token is, and its source clock was the giver's, which
-- advances
pub record Departs {P Q : Type 0} (c c' : Channel P Q) (t : Held P) : Type 0 where
  pub none_before : (u : Held P) → OnTheWay c u → ⊥
  pub on_the_way : OnTheWay c' t
  pub own_clock : c.source ≤ t.source
  pub advanced : t.source < c'.source

-- an arrival: the token was on the way, and its slot goes
pub record Arrives {P Q : Type 0} (c c' : Channel P Q) (t : Held P) : Type 0 where
  pub on_the_way : OnTheWay c t
  pub slot_gone : c'.slot ≡ None

-- neither: what is on the way afterwards is what was on the way before
pub record Stays {P Q : Type 0} (c c' : Channel P Q) : Type 0 where
  pub still : (t : Held P) → OnTheWay c t → OnTheWay c' t
  pub nothing_new : (t : Held P) → OnTheWay c' t → OnTheWay c t

abbrev pub Brings : {P Q : Type 0} → Channel P Q → Channel P Q → Event P → Type 0
Brings c c' quiet = Stays c c'
Brings c c' (departs t) = Departs c c' t
Brings c c' (arrives t) = Arrives c c' t

pub record Turn {P Q : Type 0} (c c' : Channel P Q) (e : Event P) : Type 0 where
  -- clocks never fall
  pub source_rises : c.source ≤ c'.source
  pub destination_rises : c.destination ≤ c'.destination
  -- a token that stands was there, or was made in this turn
  pub token_from : (t : Held P) → c'.token ≡ Some t → (c.token ≡ Some t) ⊎ (e ≡ departs t)
  -- a slot that stands was there, or was opened in this turn
  pub slot_from : (l : Held Q) → c'.slot ≡ Some l → (c.slot ≡ Some l) ⊎ Opened c c' l
  -- a slot goes only when the giver's source clock has passed it
  pub slot_goes : (l : Held Q) → c.slot ≡ Some l → (c'.slot ≡ Some l) ⊎ (l.source < c.source)
  -- what is on the way changes by a departure or an arrival only
  pub brings : Brings c c' e
