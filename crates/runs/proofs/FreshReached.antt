-- A run starts at a fresh table, which has nothing: no passes, no slot, no token, no message.
-- Assumes nothing.
use Rattle.std.proofs.Common.{Some, None}
use Prim.Native.Nat.{ℕ, zero, suc, ◌<◌}
use mathlib.Core.Path.{◌≡◌, refl, ap}
use mathlib.Core.Bool.{true}
use mathlib.Core.List.{[]}
use native.Mathlib.Omega.{arith}
use Rattle.rules.specs.declared.held.Token.{Token}
use Rattle.rules.specs.declared.held.Slot.{Slot}
use lib.ListN.{get_or, replicate}
use Rattle.handshake.specs.History.{departed, arrived}
use Rattle.ground.proofs.Sums.{sum_nothing, pairs_nothing}
use Rattle.handshake.proofs.Webs.{fresh_web}
use Rattle.station.specs.Held.{slot_for, token_for}
use Rattle.ground.specs.Limits.{most_stations}
use Rattle.station.specs.Sound.{count_sound}
use Rattle.station.specs.Steps.{blank}
use Rattle.station.specs.declared.held.PeerCell.{PeerCell}
use Rattle.rules.specs.declared.message.Message.{Message}
use Rattle.station.specs.declared.station.Station.{Station}
use Rattle.ground.proofs.Stores.{stored}
use Rattle.table.specs.Fresh.{seats_to, blank_table, fresh_table_of}
use Rattle.pool.specs.Pool.{most_places}
use Rattle.table.specs.Table.{station_at, waiting_at}
use Rattle.table.specs.Way.{between, on_the_way}
use Rattle.table.specs.Sound.{table_sound}
use Rattle.pool.specs.declared.places.Place.{Place}
use Rattle.table.proofs.FreshSound.{length_seats, seat_at, fresh_table_sound}
use Rattle.table.proofs.Tables.{table_parts}
use Rattle.runs.proofs.Full.{FullStation}
use Rattle.runs.proofs.Reached.{Reached}
use Rattle.runs.proofs.Seen.{slot_seen, token_seen}

-- what is everywhere the same
everywhere : {A : Type 0} (P : A → Type 0) (n i : ℕ) {a d : A} → P a → P d → P (get_or (replicate n a) i d)
everywhere P zero i p q = q
everywhere P (suc n) zero p q = p
everywhere P (suc n) (suc i) p q = everywhere P n i p q

-- a station that has nothing
record Bare (s : Station) : Type 0 where
  pub value : s.value ≡ 0
  pub intake : s.intake ≡ 0
  pub slot : (k : ℕ) → slot_for s k ≡ None
  pub token : (k : ℕ) → token_for s k ≡ None

blank_bare : (number count : ℕ) → Bare (blank number count)
blank_bare number count =
    record {
      value = refl;
      intake = refl;
      slot = λ k. everywhere (λ (c : PeerCell Slot). c.held ≡ None) most_stations k refl refl;
      token = λ k. everywhere (λ (c : PeerCell Token). c.held ≡ None) most_stations k refl refl;
    }

seats_bare : (count n k : ℕ) {d : Station} → Bare d → Bare (get_or (seats_to count n) k d)
unfolding seats_to
seats_bare count zero k b = everywhere Bare most_stations k (blank_bare 0 0) b
seats_bare count (suc n) k b = stored Bare (seats_to count n) n k _ (λ e. blank_bare n count) (seats_bare count n k b)

module _ (count : ℕ) (sound : count_sound count ≡ true) where
  bare : (k : ℕ) → Bare (station_at (blank_table count) k)
  bare k = seats_bare count count k (record { value = refl; intake = refl; slot = λ k. refl; token = λ k. refl })

  blank_sound : table_sound (blank_table count) ≡ true
  unfolding fresh_table_of
  blank_sound = rw sound at (fresh_table_sound count sound)

  seat_full : (k : ℕ) → k < count → FullStation (station_at (blank_table count) k)
  seat_full k h = rw (seat_at count count k _ h (table_parts (blank_table count) blank_sound).most) (record { slots = refl; tokens = refl })

  nothing_on_the_way : on_the_way (blank_table count) ≡ 0
  nothing_on_the_way = pairs_nothing (between (blank_table count)) count (λ g r _ _. rw ((bare g).token r))

  nothing_waits : (p : ℕ) (m : Message) → waiting_at (blank_table count) p ≡ Some m → ⊥
  nothing_waits p m e = everywhere (λ (x : Place). x.waiting ≡ Some m → ⊥) most_places p {a = record { waiting = None }} (λ f. cc) (λ f. cc) e

  pub fresh_reached : Reached (fresh_table_of count).table [] 0 0
  unfolding fresh_table_of departed arrived
  fresh_reached =
      rw sound
      (record {
        sound = blank_sound;
        full = record { stations = length_seats count count; pool = refl; each = seat_full };
        holds = fresh_web (λ g r. ap token_seen ((bare g).token r)) (λ g r. ap slot_seen ((bare r).slot g)) (λ l w. nothing_waits w.0 w.1 w.2);
        way = omega (arith, nothing_on_the_way);
        passes = omega (arith, sum_nothing (λ k. (station_at (blank_table count) k).value) count (λ k _. (bare k).value), nothing_on_the_way);
        intakes = sum_nothing (λ k. (station_at (blank_table count) k).intake) count (λ k _. (bare k).intake);
      })
