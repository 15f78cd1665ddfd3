-- A step done where the table is held: what its plan changes, by what it looked up, leaves the
-- table that the step leaves, and tells what the step tells.
-- Assumes nothing.
use Rattle.std.proofs.Common.{Option, Some, None}
use Prim.Native.Nat.{ℕ, zero, suc, ◌+◌, ◌<◌, ◌≤◌}
use mathlib.Core.Path.{◌≡◌, refl}
use mathlib.Core.Bool.{Bool, true, false, not, ◌&&◌}
use mathlib.Core.List.{[], ◌∷◌}
use native.Mathlib.Omega.{arith}
use Rattle.steps.specs.declared.asked.Step.{Step}
use lib.Dec.{ltb}
use borrow.Author.Tests.{ltb-true, lt-ltb, le-leb, le-ltb, not-false}
use Rattle.rules.specs.declared.message.Message.{Message}
use Rattle.rules.specs.declared.stock.Stock.{Stock}
use Rattle.ground.specs.Answers.{bad_amount, intake_limit, value_limit, too_few}
use Rattle.ground.specs.Limits.{most_stations, most_intake, most_value}
use Rattle.ground.specs.Refusals.{when, answer_of}
use Rattle.rules.specs.Report.{no_report}
use Rattle.rules.specs.Rules.{fill}
use Rattle.rules.specs.Stock.{amount_sound, stocked, added_to, drawn_from, add_done, draw_done}
use Rattle.rules.specs.Taking.{five_rules, refused_taking, taken_of, message_small}
use Rattle.ground.proofs.Tests.{both_hold}
use Rattle.ground.proofs.Refusing.{passed}
use Rattle.ground.specs.Choice.{if_done}
use Rattle.station.specs.Side.{side_for}
use Rattle.station.specs.Sound.{token_sound}
use Rattle.station.specs.Steps.{message_for}
use Rattle.station.proofs.Parts.{SoundStation, station_parts, message_parts}
use Rattle.steps.specs.declared.planning.Change.TheVariants.{AtSide}
use Rattle.steps.specs.declared.planning.Plan.{Plan}
use Rattle.steps.specs.declared.asked.Step.TheVariants.{Add, Draw, Send, Deliver, Lose}
use Rattle.table.specs.declared.stepped.Stepped.{Stepped}
use Rattle.table.specs.declared.table.Table.{Table}
use Rattle.pool.specs.Pool.{most_places, lowest_empty}
use Rattle.steps.specs.Looking.{below, place_looked_at, seat_looked_at, looked_at, flags_of, free_for}
use Rattle.table.specs.Table.{station_at, waiting_at}
use Rattle.table.specs.Sound.{table_sound}
use Rattle.table.specs.Stepped.{answered_step, did}
use Rattle.steps.specs.Steps.{send_step, step_of}
use Rattle.steps.specs.Running.{asked_step}
use Rattle.steps.specs.Planning.{planned, stock_done, stock_plan, message_by, place_plan, send_answer, send_plan, side_done, side_plan, acted_in, deliver_plan, lose_plan, plan_at, changed}
use Rattle.steps.proofs.Flags.{lowest_flag}
use Rattle.table.proofs.Puts.{seat_of_lem}
use Rattle.steps.proofs.Rests.{rests_same, side_same, station_same}
use Rattle.table.proofs.Tables.{SoundTable, table_parts, waits}

-- a sound message is in range
small_message : (m : Message) → m.value ≤ most_value → token_sound m.token m.source ≡ true → message_small m ≡ true
small_message m v e = grind arith

-- what a plan tells, and the table that it leaves
abbrev pub stepped : Table → ℕ → ℕ → Plan → Stepped
stepped t k j p = record { answer = p.answer; result = p.result; report = p.report; table = changed t k j p.change }

-- a stock that is refused changes nothing, and one that is not is put
stock_by : (t : Table) (k j n value intake : ℕ) (d : Stock) → d.answer ≡ 0 → let r = stocked n value intake d in
    stepped t k j (planned r.answer (stock_done r)) ≡ answered_step n t (did d.result no_report (changed t k j (stock_done d).change))
stock_by t k j n value intake d e = grind arith

-- a send that is not refused shows the sender's own message
send_by : (t : Table) (k j n p : ℕ) (m m' : Message) → (n ≡ 0 → m ≡ m') → stepped t k j (planned n (place_plan p p (Some m))) ≡ answered_step n t (send_step t p m')
send_by t k j n p m m' e = grind arith

-- a delivery in which no rule acts leaves the table
acted_by : (t : Table) (k j : ℕ) (m : Message) (b : Bool) → let r = five_rules (side_for (station_at t k) j) m in acted_in r.report ≡ b
    → stepped t k j (side_done r) ≡ did r.result r.report (changed t k j (AtSide r.side))
acted_by t k j m true e = rw e
acted_by t k j m false e =
    let x = side_for (station_at t k) j in
    rw (e, rests_same x m e, side_same (station_at t k) j, station_same t k)

deliver_by_lem : (t : Table) (k j n : ℕ) (m : Message) → let x = side_for (station_at t k) j in let r = if_done n (five_rules x m) (refused_taking n x) in
    stepped t k j (side_plan r) ≡ answered_step n t (did (five_rules x m).result (five_rules x m).report (changed t k j (AtSide (five_rules x m).side)))
unfolding five_rules
deliver_by_lem t k j zero m = acted_by t k j m (acted_in (five_rules (side_for (station_at t k) j) m).report) refl
deliver_by_lem t k j (suc n) m = refl

module _ (t : Table) (sound : table_sound t ≡ true) where
  whole : SoundTable t
  whole = table_parts t sound

  -- a station of the table stands at its own number
  index : (k : ℕ) → k < t.count → ltb k most_stations ≡ true
  index k h = lt-ltb k most_stations (omega (arith, whole.most))

  -- what holds where k is not below the count, and at the sound station k where it is, holds of
  -- what is looked at
  looked : (k : ℕ) (P : ℕ → Type 0) → (ltb k t.count ≡ false → P (below k most_stations))
      → (ltb k t.count ≡ true → SoundStation (station_at t k) → P k) → P (below k most_stations)
  looked k P past there = by (ltb k t.count) refl
    where
      by : (b : Bool) → ltb k t.count ≡ b → P (below k most_stations)
      by false e = past e
      by true e = let h = ltb-true k t.count e in rw (index k h) (there e (station_parts (station_at t k) (seat_of_lem whole k h).sound))

  add_placed : (k amount j : ℕ) → let i = below k most_stations in let s = station_at t i in
      stepped t i j (stock_plan k t.count (added_to s.value s.intake amount)) ≡ step_of t (Add k amount)
  unfolding step_of added_to
  add_placed k amount j =
      looked k (λ i. let s = station_at t i in stepped t i j (stock_plan k t.count (added_to s.value s.intake amount)) ≡ step_of t (Add k amount))
      (λ e. rw (sound, e))
      (λ e w.
      let s = station_at t k in
      rw (sound, e, le-leb _ _ w.value, le-leb _ _ w.intake)
      (stock_by t k j
      (answer_of
      (when (not (amount_sound amount)) bad_amount
      ∷ when (ltb most_intake (s.intake + amount)) intake_limit
      ∷ when (ltb most_value (s.value + amount)) value_limit
      ∷ []))
      s.value s.intake (add_done s.value s.intake amount) refl))

  draw_placed : (k amount j : ℕ) → let i = below k most_stations in let s = station_at t i in
      stepped t i j (stock_plan k t.count (drawn_from s.value s.intake amount)) ≡ step_of t (Draw k amount)
  unfolding step_of drawn_from
  draw_placed k amount j =
      looked k (λ i. let s = station_at t i in stepped t i j (stock_plan k t.count (drawn_from s.value s.intake amount)) ≡ step_of t (Draw k amount))
      (λ e. rw (sound, e))
      (λ e w.
      let s = station_at t k in
      rw (sound, e, le-leb _ _ w.value, le-leb _ _ w.intake)
      (stock_by t k j (answer_of (when (not (amount_sound amount)) bad_amount ∷ when (ltb s.value amount) too_few ∷ []))
      s.value s.intake (draw_done s.value s.intake amount) refl))

  -- what a send that is not refused has passed
  send_message : (from to p : ℕ) → send_answer from to t.count p ≡ 0 → let l = looked_at from to in
      message_by from to (side_for (station_at t l.station) l.peer) ≡ message_for (station_at t from) to
  send_message from to p e =
      let one = passed (not (ltb from t.count && ltb to t.count)) _ e in
      let ends = both_hold (ltb from t.count) (ltb to t.count) (not-false _ one.0) in
      let h = ltb-true from t.count ends.0 in
      let g = ltb-true to t.count ends.1 in
      rw (index from h, index to g, (seat_of_lem whole from h).number)

  send_placed : (from to : ℕ) → let p = lowest_empty t.pool in let l = looked_at from to in
      stepped t l.station l.peer (send_plan from to t.count (side_for (station_at t l.station) l.peer) p) ≡ step_of t (Send from to)
  unfolding step_of
  send_placed from to =
      let p = lowest_empty t.pool in
      rw sound (send_by t _ _ (send_answer from to t.count p) p _ _ (send_message from to p))

  deliver_placed : (p : ℕ) → let v = waiting_at t (below p most_places) in let l = seat_looked_at (Some (Deliver p)) v in
      stepped t l.station l.peer (deliver_plan p v (side_for (station_at t l.station) l.peer)) ≡ step_of t (Deliver p)
  unfolding step_of taken_of
  deliver_placed p = by (ltb p most_places) (waiting_at t p) refl refl
    where
      by : (b : Bool) (v : Option Message) → ltb p most_places ≡ b → waiting_at t p ≡ v → let v = waiting_at t (below p most_places) in
          let l = seat_looked_at (Some (Deliver p)) v in
          stepped t l.station l.peer (deliver_plan p v (side_for (station_at t l.station) l.peer)) ≡ step_of t (Deliver p)
      by false v e f = rw (sound, e)
      by true None e f = rw (sound, e, f)
      by true (Some m) e f =
          let there = waits m t.count (rw f at (whole.places p (ltb-true p most_places e))) in
          let s = station_at t m.to in
          let shows = message_parts m there.sound in
          let w = station_parts s (seat_of_lem whole m.to there.to).sound in
          rw (sound, e, f, index m.to there.to, index m.from there.from, le-ltb most_value s.value w.value, small_message m shows.value shows.token)
          (deliver_by_lem t m.to m.from (answer_of (when (ltb most_value (fill (side_for s m.from) m).side.value) value_limit ∷ [])) m)

  lose_placed : (p k j : ℕ) → stepped t k j (lose_plan p (waiting_at t (below p most_places))) ≡ step_of t (Lose p)
  unfolding step_of
  lose_placed p k j = grind arith

  -- whatever is asked for, by what it looked up
  pub placed : (asked : Option Step) → let v = waiting_at t (below (place_looked_at asked) most_places) in let free = free_for asked (flags_of t.pool) in
      let l = seat_looked_at asked v in
      stepped t l.station l.peer (plan_at t.count asked (station_at t l.station).intake (side_for (station_at t l.station) l.peer) v free) ≡ asked_step t asked
  placed None = refl
  placed (Some (Add k amount)) = add_placed k amount _
  placed (Some (Draw k amount)) = draw_placed k amount _
  placed (Some (Send from to)) = rw (lowest_flag t.pool) (send_placed from to)
  placed (Some (Deliver p)) = deliver_placed p
  placed (Some (Lose p)) = lose_placed p _ _
