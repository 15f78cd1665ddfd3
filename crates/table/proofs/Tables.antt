-- Soundness of a table, part by part. Assumes nothing.
use Rattle.std.proofs.Common.{Some}
use Prim.Native.Nat.{ℕ, ◌<◌, ◌≤◌}
use mathlib.Core.Path.{◌≡◌}
use mathlib.Core.Bool.{true, ◌&&◌, and-false}
use lib.Dec.{ltb, leb, eqb}
use borrow.Author.Tests.{leb-true, ltb-true, eqb-true, lt-leb, le-leb}
use Rattle.station.specs.declared.station.Station.{Station}
use Rattle.rules.specs.declared.message.Message.{Message}
use Rattle.ground.specs.Limits.{most_stations}
use Rattle.ground.specs.Below.{all_below}
use Rattle.station.specs.Sound.{station_sound, message_sound}
use Rattle.ground.proofs.Tests.{needed}
use Rattle.ground.proofs.Below.{all_at, all_from}
use Rattle.table.specs.declared.table.Table.{Table}
use Rattle.pool.specs.Pool.{most_places}
use Rattle.table.specs.Table.{station_at, waiting_at}
use Rattle.table.specs.Sound.{seat_sound, place_sound, table_sound}

-- a station at its number, and a message that waits
pub record Seated (s : Station) (k n : ℕ) : Type 0 where
  pub sound : station_sound s ≡ true
  pub number : s.number ≡ k
  pub count : s.count ≡ n

pub record Waits (m : Message) (count : ℕ) : Type 0 where
  pub sound : message_sound m ≡ true
  pub from : m.from < count
  pub to : m.to < count

pub record SoundTable (t : Table) : Type 0 where
  pub least : 2 ≤ t.count
  pub most : t.count ≤ most_stations
  pub seats : (k : ℕ) → k < most_stations → seat_sound (station_at t k) k t.count ≡ true
  pub places : (p : ℕ) → p < most_places → place_sound (waiting_at t p) t.count ≡ true

pub table_parts : (t : Table) → table_sound t ≡ true → SoundTable t
unfolding table_sound
table_parts t e =
    let seats = needed (all_below (λ k. seat_sound (station_at t k) k t.count) most_stations) (λ f. simp (f, and-false) at e) in
    let places = needed (all_below (λ p. place_sound (waiting_at t p) t.count) most_places) (λ f. simp (f, and-false) at e) in
    record {
      least = leb-true _ _ (needed (leb 2 t.count) (λ f. simp f at e));
      most = leb-true _ _ (needed (leb t.count most_stations) (λ f. simp (f, and-false) at e));
      seats = λ k h. all_at (λ k. seat_sound (station_at t k) k t.count) most_stations k seats h;
      places = λ p h. all_at (λ p. place_sound (waiting_at t p) t.count) most_places p places h;
    }

-- so that a number below the count is one of the array's
pub count_most : (t : Table) → table_sound t ≡ true → t.count ≤ most_stations
count_most t e = (table_parts t e).most

pub table_whole : (t : Table) → SoundTable t → table_sound t ≡ true
unfolding table_sound
table_whole t w =
    rw (
      le-leb _ _ w.least,
      le-leb _ _ w.most,
      all_from (λ k. seat_sound (station_at t k) k t.count) most_stations w.seats,
      all_from (λ p. place_sound (waiting_at t p) t.count) most_places w.places,
    )

pub seated : (s : Station) (k count : ℕ) → k < count → seat_sound s k count ≡ true → Seated s k count
seated s k count h e =
    let f : (station_sound s && eqb s.number k && eqb s.count count) ≡ true = rw (lt-leb count k h) at e in
    record {
      sound = needed (station_sound s) (λ g. simp g at f);
      number = eqb-true _ _ (needed (eqb s.number k) (λ g. simp (g, and-false) at f));
      count = eqb-true _ _ (needed (eqb s.count count) (λ g. simp (g, and-false) at f));
    }

pub waits : (m : Message) (count : ℕ) → place_sound (Some m) count ≡ true → Waits m count
waits m count e =
    record {
      sound = needed (message_sound m) (λ g. simp g at e);
      from = ltb-true _ _ (needed (ltb m.from count) (λ g. simp (g, and-false) at e));
      to = ltb-true _ _ (needed (ltb m.to count) (λ g. simp (g, and-false) at e));
    }
