-- Every step of a sound table leaves a sound table. Assumes nothing.
use Rattle.std.proofs.Common.{Option, Some, None}
use Prim.Native.Nat.{ℕ, zero, suc, ◌+◌, ◌-◌, ◌<◌, ◌≤◌}
use mathlib.Core.Path.{◌≡◌, refl, sym, ◌∙◌}
use mathlib.Core.Bool.{true, false, not, ◌&&◌}
use mathlib.Core.List.{[], ◌∷◌}
use native.Mathlib.Omega.{arith}
use lib.Dec.{ltb, eqb}
use borrow.Author.Tests.{ltb-true, ltb-false, lt-ltb, eq-eqb, ne_eqb, eqb-false, not-false}
use Rattle.rules.specs.declared.message.Message.{Message}
use Rattle.ground.specs.Limits.{most_value, most_intake}
use Rattle.ground.specs.Refusals.{when, answer_of}
use Rattle.rules.specs.Stock.{amount_sound}
use Rattle.ground.proofs.Tests.{both_hold}
use Rattle.ground.proofs.Refusing.{passed}
use Rattle.station.specs.Steps.{put_stock, show_answer, message_for, receive_answer, receive_of}
use Rattle.station.proofs.Keeps.{stock_sound_lem, message_sound_lem, receive_keeps}
use Rattle.station.proofs.Parts.{station_parts}
use Rattle.steps.specs.declared.asked.Step.{Step}
use Rattle.steps.specs.declared.asked.Step.TheVariants.{Add, Draw, Send, Deliver, Lose}
use Rattle.table.specs.declared.table.Table.{Table}
use Rattle.pool.specs.Pool.{most_places, is_empty, lowest_empty}
use Rattle.table.specs.Table.{station_at, waiting_at, put_station}
use Rattle.table.specs.Sound.{place_sound, table_sound}
use Rattle.table.specs.Stepped.{answered_step}
use Rattle.steps.specs.Steps.{deliver_step, overfills, step_refusals, step_done, step_of}
use Rattle.steps.specs.Running.{asked_step}
use Rattle.table.proofs.Tables.{Waits, SoundTable, table_parts, table_whole, waits}
use Rattle.table.proofs.Puts.{seat_of_lem, moved, place_whole, put_station_lem, put_place_lem}

-- what a send that is not refused has passed
pub record Sends (t : Table) (from to : ℕ) : Type 0 where
  pub from_below : from < t.count
  pub to_below : to < t.count
  pub other : from ≡ to → ⊥
  pub free : lowest_empty t.pool < most_places

pub sends : (t : Table) (from to : ℕ) → answer_of (step_refusals t (Send from to)) ≡ 0 → Sends t from to
sends t from to e =
    let one = passed (not (table_sound t)) _ e in
    let two = passed (not (ltb from t.count && ltb to t.count)) _ one.1 in
    let three = passed (eqb from to) _ two.1 in
    let four = passed (not (ltb (lowest_empty t.pool) most_places)) _ three.1 in
    let ends = both_hold (ltb from t.count) (ltb to t.count) (not-false _ two.0) in
    record {
      from_below = ltb-true _ _ ends.0;
      to_below = ltb-true _ _ ends.1;
      other = eqb-false _ _ three.0;
      free = ltb-true _ _ (not-false _ four.0);
    }

module _ {t : Table} (w : SoundTable t) where
  -- the sender shows a message to a peer
  pub shows_peer : {from to : ℕ} → from < t.count → to < t.count → (from ≡ to → ⊥) → show_answer (station_at t from) to ≡ 0
  shows_peer {from} {to} h g n =
      let seat = seat_of_lem w from h in
      rw (seat.sound, lt-ltb to (station_at t from).count (omega (arith, seat.count)), ne_eqb to (station_at t from).number (λ f. n (sym (f ∙ seat.number))))

  -- a message that waits and does not overfill is received by the station that it is for
  pub received_there : (m : Message) → Waits m t.count → overfills t (Some m) ≡ false → receive_answer (station_at t m.to) m ≡ 0
  received_there m there e =
      let seat = seat_of_lem w m.to there.to in
      rw (
        seat.sound,
        there.sound,
        lt-ltb m.from (station_at t m.to).count (omega (arith, there.from, seat.count)),
        lt-ltb m.to (station_at t m.to).count (omega (arith, there.to, seat.count)),
        eq-eqb m.to (station_at t m.to).number (sym seat.number),
        e,
      )

  taken_seated : (m : Message) → Waits m t.count → overfills t (Some m) ≡ false → SoundTable (deliver_step t (Some m)).table
  unfolding receive_of
  taken_seated m there e =
      let s = station_at t m.to in
      let seat = seat_of_lem w m.to there.to in
      put_station_lem m.to w (moved seat (rw (received_there m there e) at (receive_keeps s m seat.sound)) (refl, refl))

  -- a station that has less than it had
  pub less_keeps : (k value : ℕ) → k < t.count → value ≤ (station_at t k).value → let s = station_at t k in SoundTable (put_station t k (put_stock s value s.intake))
  less_keeps k value h less =
      let s = station_at t k in
      let seat = seat_of_lem w k h in
      let parts = station_parts s seat.sound in
      put_station_lem k w (moved seat (stock_sound_lem s value s.intake seat.sound (omega (arith, parts.value, less)) parts.intake) (refl, refl))

  -- each step that is not refused, by its own reason
  done_keeps : (step : Step) → answer_of (step_refusals t step) ≡ 0 → SoundTable (step_done t step).table
  done_keeps (Add k amount) e =
      let one = passed (not (table_sound t)) _ e in
      let two = passed (not (ltb k t.count)) _ one.1 in
      let three = passed (not (amount_sound amount)) _ two.1 in
      let four = passed (ltb most_intake ((station_at t k).intake + amount)) _ three.1 in
      let five = passed (ltb most_value ((station_at t k).value + amount)) _ four.1 in
      let seat = seat_of_lem w k (ltb-true _ _ (not-false _ two.0)) in
      put_station_lem k w (moved seat (stock_sound_lem (station_at t k) _ _ seat.sound (ltb-false _ _ five.0) (ltb-false _ _ four.0)) (refl, refl))
  done_keeps (Draw k amount) e =
      let one = passed (not (table_sound t)) _ e in
      let two = passed (not (ltb k t.count)) _ one.1 in
      less_keeps k ((station_at t k).value - amount) (ltb-true _ _ (not-false _ two.0)) (omega arith)
  done_keeps (Send from to) e =
      let z = sends t from to e in
      let seat = seat_of_lem w from z.from_below in
      let shows = shows_peer z.from_below z.to_below z.other in
      put_place_lem (lowest_empty t.pool) (Some (message_for (station_at t from) to)) w
      (place_whole (record { sound = message_sound_lem (station_at t from) to shows; from = omega (arith, seat.number, z.from_below); to = z.to_below }))
  done_keeps (Deliver p) e =
      let one = passed (not (table_sound t)) _ e in
      let two = passed (not (ltb p most_places)) _ one.1 in
      by (waiting_at t p) (w.places p (ltb-true _ _ (not-false _ two.0))) two.1
    where
      by : (v : Option Message) → place_sound v t.count ≡ true
          → answer_of (when (is_empty v) 8 ∷ when (overfills t v) 10 ∷ []) ≡ 0
          → SoundTable (deliver_step t v).table
      by None s z = w
      by (Some m) s z = taken_seated m (waits m t.count s) (passed (overfills t (Some m)) _ z).0
  done_keeps (Lose p) e = put_place_lem p None w refl

pub step_keeps : (t : Table) (step : Step) → table_sound t ≡ true → table_sound (step_of t step).table ≡ true
unfolding step_of
step_keeps t step e = by (answer_of (step_refusals t step)) refl
  where
    by : (n : ℕ) → answer_of (step_refusals t step) ≡ n → table_sound (answered_step n t (step_done t step)).table ≡ true
    by zero z = table_whole _ (done_keeps (table_parts t e) step z)
    by (suc n) z = e

pub asked_keeps : (t : Table) (asked : Option Step) → table_sound t ≡ true → table_sound (asked_step t asked).table ≡ true
asked_keeps t None e = e
asked_keeps t (Some step) e = step_keeps t step e
