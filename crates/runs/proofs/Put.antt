-- What the theory sees of a table in which one station was put anew. Assumes nothing.
use Rattle.std.proofs.Common.{Option}
use Prim.Native.Nat.{ℕ, ◌<◌}
use mathlib.Core.Path.{◌≡◌, refl, ◌∙◌, ap}
use mathlib.Core.Bool.{Bool, true, false, cond, ◌&&◌}
use mathlib.Core.List.{List}
use lib.Dec.{eqb}
use lib.ListN.{length, get_or, set}
use lib.Seq.{get_or-set_same, get_or-set_other}
use borrow.Author.Tests.{eqb-true}
use Rattle.handshake.specs.Channel.{Held}
use Rattle.handshake.specs.Web.{with_end}
use Rattle.station.specs.Held.{no_slot, no_token, slot_for, token_for}
use Rattle.station.specs.Side.{put_side}
use Rattle.station.specs.Steps.{put_stock}
use Rattle.station.specs.declared.held.PeerCell.{PeerCell}
use Rattle.rules.specs.declared.side.Side.{Side}
use Rattle.station.specs.declared.station.Station.{Station}
use Rattle.ground.proofs.Stores.{stored, at_put}
use Rattle.ground.proofs.Choices.{made_of_choice}
use Rattle.table.specs.Table.{station_at, put_station}
use Rattle.table.specs.declared.table.Table.{Table}
use Rattle.runs.proofs.Seen.{slot_seen, token_seen, channel_of, web_of, end_of}

pub seat_here : (t : Table) (k : ℕ) (s : Station) → k < length t.stations → station_at (put_station t k s) k ≡ s
seat_here t k s h = get_or-set_same t.stations k s _ h

pub seat_else : (t : Table) (k a : ℕ) (s : Station) → (a ≡ k → ⊥) → station_at (put_station t k s) a ≡ station_at t a
seat_else t k a s n = get_or-set_other t.stations k a s _ n

-- of a row of slots or of tokens, with another one for j
cell_put : {T : Type 0} (seen : Option T → Option (Held ℕ)) (cells : List (PeerCell T)) (j k : ℕ) (h : Option T) (d : PeerCell T) → j < length cells
    → seen (get_or (set cells j (record { held = h })) k d).held ≡ cond (eqb k j) (seen h) (seen (get_or cells k d).held)
cell_put {T} seen cells j k h d b =
    ap (λ (y : PeerCell T). seen y.held) (at_put cells j k (record { held = h }) d b) ∙ made_of_choice (λ (y : PeerCell T). seen y.held) (eqb k j) _ _

-- a station with another side for j
module _ (s : Station) (j : ℕ) (x : Side) where
  pub slot_put : (k : ℕ) → j < length s.slots → slot_seen (slot_for (put_side s j x) k) ≡ cond (eqb k j) (slot_seen x.slot) (slot_seen (slot_for s k))
  slot_put k h = cell_put slot_seen s.slots j k x.slot no_slot h

  pub token_put : (k : ℕ) → j < length s.tokens → token_seen (token_for (put_side s j x) k) ≡ cond (eqb k j) (token_seen x.token) (token_seen (token_for s k))
  token_put k h = cell_put token_seen s.tokens j k x.token no_token h

-- it stands at number i
module _ (t : Table) (i j : ℕ) (x : Side) (here : i < length t.stations) (slots : j < length (station_at t i).slots) (tokens : j < length (station_at t i).tokens) where
  abbrev put : Station
  put = put_side (station_at t i) j x

  channel_put : (g r : ℕ) (a b : Bool) → (a ≡ true → g ≡ i) → (b ≡ true → r ≡ i)
      → channel_of (cond a put (station_at t g)) (cond b put (station_at t r)) g r
      ≡ record {
        source = cond a x.source.0 (station_at t g).source.0;
        destination = cond b x.destination.0 (station_at t r).destination.0;
        token = cond (a && eqb r j) (token_seen x.token) (token_seen (token_for (station_at t g) r));
        slot = cond (b && eqb g j) (slot_seen x.slot) (slot_seen (slot_for (station_at t r) g));
      }
  channel_put g r true true p q = rw (p refl, q refl, token_put (station_at t i) j x i tokens, slot_put (station_at t i) j x i slots)
  channel_put g r true false p q = rw (p refl, token_put (station_at t i) j x r tokens)
  channel_put g r false true p q = rw (q refl, slot_put (station_at t i) j x g slots)
  channel_put g r false false p q = refl

  pub side_put : (g r : ℕ) → web_of (put_station t i put) g r ≡ with_end (web_of t) i j (end_of x) g r
  side_put g r =
      rw (at_put t.stations i g put _ here, at_put t.stations i r put _ here)
      (channel_put g r (eqb g i) (eqb r i) (eqb-true g i) (eqb-true r i))

-- another value and intake are not seen
pub stock_put : (t : Table) (k value intake g r : ℕ) → web_of (put_station t k (put_stock (station_at t k) value intake)) g r ≡ web_of t g r
stock_put t k value intake g r =
    stored (λ (y : Station). channel_of (station_at (put_station t k stocked) g) y g r ≡ web_of t g r) t.stations k r _ (λ e. rw e (giver k)) (giver r)
  where
    stocked : Station
    stocked = put_stock (station_at t k) value intake

    giver : (n : ℕ) → channel_of (station_at (put_station t k stocked) g) (station_at t n) g n ≡ web_of t g n
    giver n = stored (λ (y : Station). channel_of y (station_at t n) g n ≡ web_of t g n) t.stations k g _ (λ e. rw e) refl
