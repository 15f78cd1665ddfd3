-- What holds of every table that a run reaches, and what a step has to show to keep it. Assumes
-- nothing.
use Rattle.std.proofs.Common.{Option, Some, None}
use Prim.Native.Nat.{ℕ, ◌+◌, ◌<◌, ◌≤◌}
use mathlib.Core.Path.{◌≡◌, refl, ◌∙◌, ap}
use mathlib.Core.Bool.{true}
use mathlib.Core.List.{List, ◌++◌}
use mathlib.Core.Logic.{◌⊎◌}
use native.Mathlib.Omega.{arith}
use Rattle.rules.specs.declared.held.Token.{Token}
use Rattle.rules.specs.declared.held.Slot.{Slot}
use lib.ListN.{length}
use Rattle.ground.specs.Sums.{sum_below}
use Rattle.handshake.specs.History.{Entry, departed, arrived}
use Rattle.handshake.specs.Web.{Letter, Holds, Present, on_all_ways, weigh}
use Rattle.handshake.proofs.Histories.{departed_both, arrived_both}
use Rattle.handshake.proofs.Passages.{Passage}
use Rattle.ground.proofs.Sums.{sum_one, sum_most, pairs_same}
use Rattle.handshake.proofs.Webs.{waits_keep}
use Rattle.station.specs.Held.{slot_for, token_for}
use Rattle.ground.specs.Limits.{most_intake, most_value}
use Rattle.rules.specs.declared.message.Message.{Message}
use Rattle.station.specs.declared.station.Station.{Station}
use Rattle.table.specs.Sound.{table_sound}
use Rattle.table.specs.Table.{station_at, waiting_at, put_station}
use Rattle.table.specs.Way.{travels, between, on_the_way, at_stations}
use Rattle.table.specs.declared.table.Table.{Table}
use Rattle.table.proofs.Sums.{station_sound_lem}
use Rattle.table.proofs.Tables.{table_parts}
use Rattle.runs.specs.Demand3.{amount}
use Rattle.runs.proofs.Seen.{slot_seen, token_seen, web_of, letter_of}
use Rattle.runs.proofs.Full.{Full}
use Rattle.runs.proofs.Put.{seat_here, seat_else}

-- the letters of the messages that wait in a table
abbrev pub waits_in : Table → Letter ℕ ℕ → Type 0
waits_in t l = (p : ℕ) × (m : Message) × (waiting_at t p ≡ Some m) × (letter_of m ≡ l)

-- all that the stations of a table took in
abbrev pub intake_of : Table → ℕ
intake_of t = sum_below (λ k. (station_at t k).intake) t.count

-- after the history H, with so many passes added and drawn
pub record Reached (t : Table) (H : List (Entry ℕ)) (plus minus : ℕ) : Type 0 where
  pub sound : table_sound t ≡ true
  pub full : Full t
  pub holds : Holds (web_of t) (waits_in t) H
  pub way : on_the_way t + arrived amount H ≡ departed amount H
  pub passes : at_stations t + on_the_way t + minus ≡ plus
  pub intakes : intake_of t ≡ plus

-- what a step does that adds p passes, draws q, and makes the entries K
pub record Goes (t t' : Table) (H K : List (Entry ℕ)) (p q : ℕ) : Type 0 where
  pub count : t'.count ≡ t.count
  pub full : Full t'
  pub passage : Passage amount t.count (web_of t) (web_of t') (waits_in t) H K
  pub waits : (l : Letter ℕ ℕ) → waits_in t' l → waits_in t l ⊎ Present (web_of t') l
  pub values : at_stations t' + departed amount K + q ≡ at_stations t + arrived amount K + p
  pub intakes : intake_of t' ≡ intake_of t + p

-- the sum on the way is what the theory weighs
pub way_seen : (t : Table) → on_the_way t ≡ on_all_ways amount (web_of t) t.count
way_seen t = pairs_same (between t) _ t.count (λ g r _ _. seen (token_for (station_at t g) r) (slot_for (station_at t r) g))
  where
    seen : (h : Option Token) (l : Option Slot) → travels h l ≡ weigh amount (token_seen h) (slot_seen l)
    seen None l = refl
    seen (Some t) None = refl
    seen (Some t) (Some l) = refl

pub goes_on : {t t' : Table} {H K : List (Entry ℕ)} {plus minus p q : ℕ} → Reached t H plus minus → Goes t t' H K p q → table_sound t' ≡ true
    → Reached t' (H ++ K) (plus + p) (minus + q)
goes_on {t} {t'} {H} {K} r z sound =
    let weighs = z.passage.weighs in
    let before = way_seen t in
    let after : on_the_way t' ≡ on_all_ways amount (web_of t') t.count = way_seen t' ∙ ap (on_all_ways amount (web_of t')) z.count in
    record {
      sound = sound;
      full = z.full;
      holds = waits_keep z.passage.holds z.waits;
      way = omega (arith, r.way, departed_both amount H K, arrived_both amount H K);
      passes = omega (arith, r.passes, z.values);
      intakes = omega (arith, r.intakes, z.intakes);
    }

-- a sum over the stations when one of them is put anew
pub total_put : (f : Station → ℕ) (t : Table) (k : ℕ) (s : Station) → k < t.count → k < length t.stations
    → sum_below (λ a. f (station_at (put_station t k s) a)) t.count + f (station_at t k) ≡ sum_below (λ a. f (station_at t a)) t.count + f s
total_put f t k s h here =
    omega (
      arith,
      sum_one (λ a. f (station_at (put_station t k s) a)) (λ a. f (station_at t a)) t.count k h (λ a n. ap f (seat_else t k a s n)),
      ap f (seat_here t k s here),
    )

-- no run has more passes than one value may be
pub enough_room : {t : Table} {H : List (Entry ℕ)} {plus minus : ℕ} → Reached t H plus minus → at_stations t + on_the_way t ≤ most_value
enough_room {t} r =
    let most = (table_parts t r.sound).most in
    let intakes = sum_most (λ k. (station_at t k).intake) t.count most_intake (λ k h. (station_sound_lem t r.sound k h).intake) in
    omega (arith, r.passes, r.intakes)
