-- A step of a sound table tells and does what the step of its one station does, and a message sent
-- is the one that its sender shows. Assumes nothing.
use Rattle.std.proofs.Common.{Some}
use Prim.Native.Nat.{ℕ, zero, suc, ◌<◌, ◌+◌, ◌-◌}
use mathlib.Core.Path.{◌≡◌, refl, sym, ◌∙◌, ap}
use mathlib.Core.Bool.{true, not}
use mathlib.Core.List.{[], ◌∷◌}
use native.Mathlib.Omega.{arith}
use lib.Dec.{ltb}
use lib.ListN.{length}
use lib.Seq.{get_or-set_same, get_or-set_other}
use borrow.Author.Tests.{eq-eqb, lt-ltb, ne_eqb}
use Rattle.rules.specs.declared.message.Message.{Message}
use Rattle.rules.specs.declared.report.Report.{Report}
use Rattle.ground.specs.Answers.{bad_amount, intake_limit, value_limit, too_few}
use Rattle.ground.specs.Limits.{most_stations, most_intake, most_value}
use Rattle.ground.specs.Refusals.{when, answer_of}
use Rattle.rules.specs.Report.{no_report}
use Rattle.rules.specs.Stock.{amount_sound}
use Rattle.rules.specs.Taking.{five_rules}
use Rattle.station.specs.declared.outcome.Outcome.{Outcome}
use Rattle.station.specs.declared.station.Station.{Station}
use Rattle.station.specs.Outcome.{answered}
use Rattle.station.specs.Side.{side_for, put_side}
use Rattle.station.specs.Steps.{told, put_stock, message_for, show_answer, add_of, draw_of, receive_of}
use Rattle.station.proofs.Answering.{shown}
use Rattle.pool.specs.declared.places.Place.{Place}
use Rattle.steps.specs.declared.asked.Step.TheVariants.{Add, Draw, Send, Deliver}
use Rattle.table.specs.declared.stepped.Stepped.{Stepped}
use Rattle.table.specs.declared.table.Table.{Table}
use Rattle.pool.specs.Pool.{most_places, lowest_empty}
use Rattle.table.specs.Table.{station_at, waiting_at, put_station}
use Rattle.table.specs.Sound.{table_sound}
use Rattle.table.specs.Stepped.{did, answered_step}
use Rattle.steps.specs.Steps.{overfills, step_of}
use Rattle.table.proofs.Puts.{seat_of_lem}
use Rattle.table.proofs.Tables.{table_parts, waits}

-- a step of a table tells what an outcome tells, station k is afterwards the outcome's, and nothing
-- else changes
pub record SameAt (t : Table) (k : ℕ) (r : Outcome) (x : Stepped) : Type 0 where
  pub answer : x.answer ≡ r.answer
  pub result : x.result ≡ r.result
  pub report : x.report ≡ r.report
  pub station : station_at x.table k ≡ r.station
  pub others : (j : ℕ) → (j ≡ k → ⊥) → station_at x.table j ≡ station_at t j
  pub pool : x.table.pool ≡ t.pool
  pub count : x.table.count ≡ t.count

-- so it is for every step of one station, done or refused
same_by : (t : Table) (k n result : ℕ) (report : Report) (x : Station) → k < length t.stations
    → SameAt t k (answered n (station_at t k) (told result report x)) (answered_step n t (did result report (put_station t k x)))
same_by t k zero result report x h =
    record {
      answer = refl;
      result = refl;
      report = refl;
      station = get_or-set_same t.stations k x _ h;
      others = λ j f. get_or-set_other t.stations k j x _ f;
      pool = refl;
      count = refl;
    }
same_by t k (suc n) result report x h = record { answer = refl; result = refl; report = refl; station = refl; others = λ j f. refl; pool = refl; count = refl }

module _ (t : Table) (sound : table_sound t ≡ true) (full : length t.stations ≡ most_stations) where
  -- every station below the count is there
  there : (k : ℕ) → k < t.count → k < length t.stations
  there k h = omega (arith, (table_parts t sound).most)

  pub add_same : (k amount : ℕ) → k < t.count → SameAt t k (add_of (station_at t k) amount) (step_of t (Add k amount))
  unfolding step_of add_of
  add_same k amount h =
      let s = station_at t k in
      rw (sound, lt-ltb k t.count h, (seat_of_lem (table_parts t sound) k h).sound)
      (same_by t k
      (answer_of
      (when (not (amount_sound amount)) bad_amount
      ∷ when (ltb most_intake (s.intake + amount)) intake_limit
      ∷ when (ltb most_value (s.value + amount)) value_limit
      ∷ []))
      (s.value + amount) no_report (put_stock s (s.value + amount) (s.intake + amount)) (there k h))

  pub draw_same : (k amount : ℕ) → k < t.count → SameAt t k (draw_of (station_at t k) amount) (step_of t (Draw k amount))
  unfolding step_of draw_of
  draw_same k amount h =
      let s = station_at t k in
      rw (sound, lt-ltb k t.count h, (seat_of_lem (table_parts t sound) k h).sound)
      (same_by t k (answer_of (when (not (amount_sound amount)) bad_amount ∷ when (ltb s.value amount) too_few ∷ []))
      amount no_report (put_stock s (s.value - amount) s.intake) (there k h))

  -- delivering the message of a place is receiving it at the station that it is for
  pub deliver_same : (p : ℕ) (m : Message) → p < most_places → waiting_at t p ≡ Some m
      → SameAt t m.to (receive_of (station_at t m.to) m) (step_of t (Deliver p))
  unfolding step_of receive_of
  deliver_same p m h e =
      let w = table_parts t sound in
      let at = waits m t.count (rw e at (w.places p h)) in
      let s = station_at t m.to in
      let seat = seat_of_lem w m.to at.to in
      let r = five_rules (side_for s m.from) m in
      rw (
        sound,
        lt-ltb p most_places h,
        e,
        seat.sound,
        at.sound,
        lt-ltb m.from s.count (omega (arith, at.from, seat.count)),
        lt-ltb m.to s.count (omega (arith, at.to, seat.count)),
        eq-eqb m.to s.number (sym seat.number),
      )
      (same_by t m.to (answer_of (when (overfills t (Some m)) value_limit ∷ [])) r.result r.report (put_side s m.from r.side) (there m.to at.to))

-- a send that is not refused puts the sender's message into the lowest empty place, and changes
-- nothing else
pub record SentAt (t : Table) (p : ℕ) (m : Message) (x : Stepped) : Type 0 where
  pub answer : x.answer ≡ 0
  pub result : x.result ≡ p
  pub report : x.report ≡ no_report
  pub waiting : waiting_at x.table p ≡ Some m
  pub others : (q : ℕ) → (q ≡ p → ⊥) → waiting_at x.table q ≡ waiting_at t q
  pub stations : x.table.stations ≡ t.stations
  pub count : x.table.count ≡ t.count

pub send_same : (t : Table) (from to : ℕ) → table_sound t ≡ true → length t.pool ≡ most_places → from < t.count
    → show_answer (station_at t from) to ≡ 0 → lowest_empty t.pool < most_places
    → SentAt t (lowest_empty t.pool) (message_for (station_at t from) to) (step_of t (Send from to))
unfolding step_of
send_same t from to sound full h e free =
    let p = lowest_empty t.pool in
    let m = message_for (station_at t from) to in
    let seat = seat_of_lem (table_parts t sound) from h in
    let peer = shown (station_at t from) to e in
    rw (
      sound,
      lt-ltb from t.count h,
      lt-ltb to t.count (omega (arith, peer.below, seat.count)),
      ne_eqb from to (λ f. peer.other (sym f ∙ sym seat.number)),
      lt-ltb p most_places free,
    )
    (record {
      answer = refl;
      result = refl;
      report = refl;
      waiting = ap (λ (x : Place). x.waiting) (get_or-set_same t.pool p (record { waiting = Some m }) _ (omega arith));
      others = λ q n. ap (λ (x : Place). x.waiting) (get_or-set_other t.pool p q (record { waiting = Some m }) _ n);
      stations = refl;
      count = refl;
    })
