-- All departures and arrivals of a run, in their order, and how they belong together.
use Rattle.std.specs.Prelude.{ℕ, ◌+◌, ◌<◌, ◌≡◌, List, [], ◌∷◌, Some, slice_get}
use Rattle.handshake.specs.Channel.{Held, Event, quiet, departs, arrives}

-- passes handed from the station that made the token to the station it was made for
pub record Transfer (P : Type 0) : Type 0 where
  pub maker : ℕ
  pub receiver : ℕ
  pub token : Held P

pub data Entry (P : Type 0) : Type 0 where
  departure : Transfer P → Entry P
  arrival : Transfer P → Entry P

abbrev pub transfer : {P : Type 0} → ℕ → ℕ → Held P → Transfer P
transfer g r t = record { maker = g; receiver = r; token = t }

-- what a turn of the channel from g to r writes into the history
abbrev pub entries : {P : Type 0} → ℕ → ℕ → Event P → List (Entry P)
entries g r quiet = []
entries g r (departs t) = departure (transfer g r t) ∷ []
entries g r (arrives t) = arrival (transfer g r t) ∷ []

-- somewhere in a list
abbrev pub In : {A : Type 0} → A → List A → Type 0
In x H = (i : ℕ) × (slice_get H i ≡ Some x)

-- they belong together if maker, destination and both clocks agree
pub record Belong {P : Type 0} (x y : Transfer P) : Type 0 where
  pub maker : x.maker ≡ y.maker
  pub receiver : x.receiver ≡ y.receiver
  pub source : x.token.source ≡ y.token.source
  pub destination : x.token.destination ≡ y.token.destination

pub record Pairing {P : Type 0} (H : List (Entry P)) : Type 0 where
  -- each arrival belongs to an earlier departure between the same two stations, with both clocks
  -- equal and of the same amount
  pub departed_before : (i : ℕ) (x : Transfer P) → slice_get H i ≡ Some (arrival x) → (k : ℕ) × (k < i) × (slice_get H k ≡ Some (departure x))
  -- and to one only: two departures that belong together are the same one
  pub one_departure : (i k : ℕ) (x y : Transfer P) → slice_get H i ≡ Some (departure x) → slice_get H k ≡ Some (departure y) → Belong x y → i ≡ k
  -- no departure has two arrivals: two arrivals that belong together are the same one
  pub one_arrival : (i k : ℕ) (x y : Transfer P) → slice_get H i ≡ Some (arrival x) → slice_get H k ≡ Some (arrival y) → Belong x y → i ≡ k

-- all that departed and all that arrived, each token weighed by w
module _ {P : Type 0} (w : P → ℕ) where
  abbrev leaves : Entry P → ℕ
  leaves (departure x) = w x.token.carried
  leaves (arrival x) = 0

  abbrev lands : Entry P → ℕ
  lands (departure x) = 0
  lands (arrival x) = w x.token.carried

  unfoldable pub departed : List (Entry P) → ℕ
  departed [] = 0
  departed (e ∷ H) = leaves e + departed H

  unfoldable pub arrived : List (Entry P) → ℕ
  arrived [] = 0
  arrived (e ∷ H) = lands e + arrived H
