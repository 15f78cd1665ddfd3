-- Adding and drawing: what may be added has room, and what is drawn was there. Assumes nothing.
use Rattle.std.proofs.lemmas.Bool.Decides.{nat_tests}
use Prim.Native.Nat.{ℕ, ◌+◌, ◌-◌, ◌<◌, ◌≤◌}
use mathlib.Core.Path.{refl}
use mathlib.Core.List.{List}
use native.Mathlib.Omega.{arith}
use Rattle.handshake.specs.History.{Entry}
use Rattle.ground.proofs.Sums.{sum_most, sum_term}
use Rattle.ground.specs.Limits.{most_intake, most_value}
use Rattle.ground.specs.Refusals.{answer_of}
use Rattle.ground.proofs.Stores.{stored}
use Rattle.station.specs.declared.station.Station.{Station}
use Rattle.station.specs.Steps.{put_stock}
use Rattle.table.specs.Table.{station_at, put_station}
use Rattle.steps.specs.Steps.{draw_step, step_refusals, step_done, step_of}
use Rattle.steps.specs.declared.asked.Step.TheVariants.{Add, Draw}
use Rattle.table.specs.declared.table.Table.{Table}
use Rattle.table.proofs.Sums.{station_sound_lem}
use Rattle.table.proofs.Tables.{table_parts}
use Rattle.runs.proofs.Reached.{Reached}
use Rattle.runs.proofs.Changes.{stock_goes}
use Rattle.runs.proofs.Refused.{StepGoes, done_plain, by_answer}

module _ {t : Table} {H : List (Entry ℕ)} {plus minus : ℕ} (r : Reached t H plus minus) where
  -- there is room for what may be added: no station took in more than its limit
  add_fits : (k amount : ℕ) → k < t.count → (station_at t k).intake + amount ≤ most_intake → (station_at t k).value + amount ≤ most_value
  add_fits k amount h i =
      let s = put_stock (station_at t k) ((station_at t k).value + amount) ((station_at t k).intake + amount) in
      let more = (stock_goes r k s.value s.intake amount 0 h (omega arith) refl).intakes in
      let most = sum_most (λ a. (station_at (put_station t k s) a).intake) t.count most_intake
      (λ a b. stored (λ (y : Station). y.intake ≤ most_intake) t.stations k a _ (λ e. i) (station_sound_lem t r.sound a b).intake) in
      let mine = sum_term (λ a. (station_at t a).value) t.count k h in
      omega (arith, r.passes, r.intakes, (table_parts t r.sound).most)

  pub add_goes : (k amount : ℕ) → StepGoes t (Add k amount) H (step_of t (Add k amount))
  unfolding step_of
  add_goes k amount =
      let s = station_at t k in
      by_answer r (Add k amount) (answer_of (step_refusals t (Add k amount))) (step_done t (Add k amount))
      (grind (arith, nat_tests), grind (arith, nat_tests, add_fits k amount))
      (λ z.
      let h : k < t.count = grind (arith, nat_tests) in
      record { goes = stock_goes r k (s.value + amount) (s.intake + amount) amount 0 h (omega arith) refl; answer = done_plain })

  -- a draw that is done took what was there
  pub taken_goes : (k amount taken : ℕ) → k < t.count → taken ≤ (station_at t k).value → StepGoes t (Draw k amount) H (draw_step t k taken (station_at t k))
  taken_goes k amount taken h there =
      let s = station_at t k in
      record { goes = stock_goes r k (s.value - taken) s.intake 0 taken h (omega (arith, there)) (omega arith); answer = done_plain }

  pub draw_goes : (k amount : ℕ) → StepGoes t (Draw k amount) H (step_of t (Draw k amount))
  unfolding step_of
  draw_goes k amount =
      let s = station_at t k in
      by_answer r (Draw k amount) (answer_of (step_refusals t (Draw k amount))) (step_done t (Draw k amount))
      (grind (arith, nat_tests), grind (arith, nat_tests))
      (λ z. taken_goes k amount amount (grind (arith, nat_tests)) (grind (arith, nat_tests)))
