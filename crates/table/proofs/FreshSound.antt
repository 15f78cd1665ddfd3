-- A fresh table is sound. Assumes nothing.
use Rattle.std.proofs.Common.{None}
use Prim.Native.Nat.{ℕ, zero, suc, ◌<◌, ◌≤◌}
use mathlib.Core.Path.{◌≡◌, refl, sym, ◌∙◌}
use mathlib.Core.Logic.{⊎_elim}
use mathlib.Core.Bool.{Bool, true, false}
use native.Mathlib.Omega.{arith}
use native.Mathlib.Decide.{ℕ_discrete}
use lib.Dec.{ltb, leb}
use lib.ListN.{length, get_or, set, length-set, get_or-replicate}
use lib.Seq.{get_or-set_same, get_or-set_other}
use borrow.Author.Tests.{leb-true, ltb-true, le-leb, lt-leb, lt-ltb, eq-eqb, ltb-false}
use Rattle.station.specs.declared.station.Station.{Station}
use Rattle.ground.specs.Limits.{most_stations}
use Rattle.station.specs.Sound.{count_sound, station_sound}
use Rattle.station.specs.Steps.{blank, fresh_answer, fresh_of}
use Rattle.ground.proofs.Tests.{both_hold, below_or_last}
use Rattle.station.proofs.Keeps.{fresh_sound}
use Rattle.pool.specs.declared.places.Place.{Place}
use Rattle.pool.specs.Pool.{most_places}
use Rattle.table.specs.Table.{station_at, waiting_at}
use Rattle.table.specs.Sound.{seat_sound, place_sound, table_sound}
use Rattle.table.specs.Fresh.{seats_to, blank_table, fresh_table_of}
use Rattle.table.proofs.Tables.{table_whole}

pub length_seats : (count k : ℕ) → length (seats_to count k) ≡ most_stations
unfolding seats_to
length_seats count zero = refl
length_seats count (suc k) = length-set (seats_to count k) k (blank k count) ∙ length_seats count k

-- one station more
next_seat : (count n k : ℕ) (d : Station) → n < most_stations → (k < n → get_or (seats_to count n) k d ≡ blank k count) → Dec (k ≡ n) → k < suc n
    → get_or (set (seats_to count n) n (blank n count)) k d ≡ blank k count
next_seat count n k d most before (yes e) h = rw e (get_or-set_same (seats_to count n) n (blank n count) d (omega (arith, length_seats count n)))
next_seat count n k d most before (no other) h =
    get_or-set_other (seats_to count n) n k (blank n count) d other ∙ before (⊎_elim (λ l. l) (λ e. absurd (other (sym e))) (below_or_last n k h))

-- below the bound each station is fresh, with its own number
pub seat_at : (count n k : ℕ) (d : Station) → k < n → n ≤ most_stations → get_or (seats_to count n) k d ≡ blank k count
unfolding seats_to
seat_at count zero k d h most = absurd (omega arith)
seat_at count (suc n) k d h most =
    next_seat count n k d (omega arith) (λ less. seat_at count n k d less (omega arith)) (ℕ_discrete k n) h

blank_sound : (number count : ℕ) → count_sound count ≡ true → number < count → station_sound (blank number count) ≡ true
unfolding fresh_of
blank_sound number count e h =
    let a : fresh_answer number count ≡ 0 = rw (e, lt-ltb number count h) in
    rw a at (fresh_sound number count a)

module _ (count : ℕ) (e : count_sound count ≡ true) where
  most : count ≤ most_stations
  most = leb-true _ _ (both_hold (leb 2 count) _ e).1

  seats_by : (k : ℕ) (b : Bool) → ltb k count ≡ b → seat_sound (station_at (blank_table count) k) k count ≡ true
  seats_by k false t = rw (le-leb count k (ltb-false k count t))
  seats_by k true t =
      let h = ltb-true k count t in
      rw (seat_at count count k _ h most, lt-leb count k h, blank_sound k count e h, eq-eqb k k refl, eq-eqb count count refl)

  places : (p : ℕ) → p < most_places → place_sound (waiting_at (blank_table count) p) count ≡ true
  places p h = rw (get_or-replicate {A = Place} most_places p (record { waiting = None }) (record { waiting = None }) h)

  pub fresh_table_sound : table_sound (fresh_table_of count).table ≡ true
  unfolding fresh_table_of
  fresh_table_sound =
      rw e
      (table_whole (blank_table count)
      (record { least = leb-true _ _ (both_hold (leb 2 count) _ e).0; most = most; seats = λ k h. seats_by k (ltb k count) refl; places = places }))
