-- What a step can change in a table that a run reached: nothing, a station's stock, a place, or
-- what a receiver has taken. Assumes nothing.
use Rattle.std.proofs.Common.{Option, Some}
use Prim.Native.Nat.{ℕ, ◌+◌, ◌<◌, ◌≤◌}
use mathlib.Core.Path.{◌≡◌, refl, sym, subst}
use mathlib.Core.List.{List, []}
use mathlib.Core.Logic.{◌⊎◌, inl, inr}
use native.Mathlib.Omega.{arith}
use lib.ListN.{length}
use Rattle.handshake.specs.History.{Entry, departed, arrived}
use Rattle.handshake.specs.Web.{Web, Letter, Present}
use Rattle.handshake.proofs.Ends.{end_same}
use Rattle.handshake.proofs.Passages.{Passage, rest}
use Rattle.ground.proofs.Sums.{sum_term}
use Rattle.ground.specs.Limits.{most_value}
use Rattle.rules.specs.Rules.{fill}
use Rattle.station.specs.Side.{side_for, put_side}
use Rattle.station.specs.Steps.{put_stock}
use Rattle.rules.specs.Taking.{five_rules}
use Rattle.rules.specs.declared.message.Message.{Message}
use Rattle.rules.specs.declared.side.Side.{Side}
use Rattle.station.specs.declared.station.Station.{Station}
use Rattle.ground.proofs.Stores.{stored}
use Rattle.table.specs.Table.{station_at, waiting_at, put_station, put_place}
use Rattle.pool.specs.declared.places.Place.{Place}
use Rattle.table.specs.declared.table.Table.{Table}
use Rattle.table.proofs.Tables.{table_parts}
use Rattle.runs.specs.Demand3.{amount}
use Rattle.runs.specs.Runs.{entries_by}
use Rattle.runs.proofs.Seen.{web_of, end_of, letter_of}
use Rattle.runs.proofs.Full.{side_full, stock_full, station_full, place_full}
use Rattle.runs.proofs.LeftAlone.{filled, taken_value}
use Rattle.runs.proofs.Put.{side_put, stock_put}
use Rattle.runs.proofs.Delivered.{Stage, fill_stage, taken_stage}
use Rattle.runs.proofs.Weighed.{lands, taken_weighs}
use Rattle.runs.proofs.Reached.{waits_in, Reached, Goes, way_seen, total_put, enough_room}

module _ {t : Table} {H : List (Entry ℕ)} {plus minus : ℕ} (r : Reached t H plus minus) where
  pub nothing_goes : Goes t t H [] 0 0
  unfolding departed arrived
  nothing_goes =
      record {
        count = refl;
        full = r.full;
        passage = rest refl r.holds;
        waits = λ l w. inl w;
        values = refl;
        intakes = omega arith;
      }

  here : (k : ℕ) → k < t.count → k < length t.stations
  here k h = omega (arith, r.full.stations, (table_parts t r.sound).most)

  -- a station's stock: p passes come in, or q go out
  pub stock_goes : (k value intake p q : ℕ) → k < t.count → value + q ≡ (station_at t k).value + p → intake ≡ (station_at t k).intake + p
      → Goes t (put_station t k (put_stock (station_at t k) value intake)) H [] p q
  unfolding departed arrived
  stock_goes k value intake p q h v i =
      let s = put_stock (station_at t k) value intake in
      record {
        count = refl;
        full = station_full k r.full (stock_full value intake (r.full.each k h));
        passage = rest (λ j g n. sym (stock_put t k value intake g n) j) r.holds;
        waits = λ l w. inl w;
        values = omega (arith, total_put (λ x. x.value) t k s h (here k h));
        intakes = omega (arith, total_put (λ x. x.intake) t k s h (here k h));
      }

  -- a place: a message that shows its sender as it is now, or nothing
  pub place_goes : (p : ℕ) (v : Option Message) → ((m : Message) → v ≡ Some m → Present (web_of t) (letter_of m)) → Goes t (put_place t p v) H [] 0 0
  unfolding departed arrived
  place_goes p v sent =
      record {
        count = refl;
        full = place_full p v r.full;
        passage = rest refl r.holds;
        waits = λ l w. waits l w.0 w.1 w.2 w.3;
        values = refl;
        intakes = omega arith;
      }
    where
      waits : (l : Letter ℕ ℕ) (n : ℕ) (m : Message) → waiting_at (put_place t p v) n ≡ Some m → letter_of m ≡ l → waits_in t l ⊎ Present (web_of t) l
      waits l n m e f =
          stored (λ (x : Place). x.waiting ≡ Some m → waits_in t l ⊎ Present (web_of t) l) t.pool p n _ (λ _ c. inr (subst (Present (web_of t)) f (sent m c)))
          (λ c. inl (n, m, c, f)) e

  -- a message that waits, taken by the station that it is for
  module _ (p : ℕ) (m : Message) (waiting : waiting_at t p ≡ Some m) (apart : m.from ≡ m.to → ⊥) (from : m.from < t.count) (to : m.to < t.count) where
    abbrev taker : Station
    taker = station_at t m.to

    abbrev before : Side
    before = side_for taker m.from

    start : Stage (web_of t) (web_of t) (waits_in t) H t.count m (p, m, waiting, refl) apart from to before []
    start =
        rest (λ j g n. sym (end_same (web_of t) m.to m.from (end_of before) (λ k. refl) (λ k. refl) refl refl g n) j) r.holds

    -- there is room for what is filled
    pub fill_fits : (fill before m).side.value ≤ most_value
    unfolding departed arrived
    fill_fits =
        let z = (fill_stage (web_of t) (web_of t) (waits_in t) H t.count m (p, m, waiting, refl) apart from to before start).weighs in
        let a = lands m before m.token before.slot in
        let v = sum_term (λ k. (station_at t k).value) t.count m.to to in
        omega (arith, (filled before m).1, way_seen t, enough_room r, a.0, a.1)

    pub taken_goes : let x = five_rules before m in
        Goes t (put_station t m.to (put_side taker m.from x.side)) H (entries_by (Some m) x.result x.report) 0 0
    taken_goes =
        let x = five_rules before m in
        let s = put_side taker m.from x.side in
        let lengths = r.full.each m.to to in
        let most = (table_parts t r.sound).most in
        let weighs = taken_weighs m before in
        record {
          count = refl;
          full = station_full m.to r.full (side_full m.from x.side lengths);
          passage =
              subst (λ (X : Web ℕ ℕ). Passage amount t.count (web_of t) X (waits_in t) H (entries_by (Some m) x.result x.report))
              (λ j g n.
              sym (side_put t m.to m.from x.side (here m.to to) (omega (arith, lengths.slots)) (omega (arith, lengths.tokens)) g n) j)
              (taken_stage (web_of t) (web_of t) (waits_in t) H t.count m (p, m, waiting, refl) apart from to before start);
          waits = λ l w. inl w;
          values = omega (arith, total_put (λ y. y.value) t m.to s to (here m.to to), taken_value before m, weighs.0, weighs.1);
          intakes = omega (arith, total_put (λ y. y.intake) t m.to s to (here m.to to));
        }
