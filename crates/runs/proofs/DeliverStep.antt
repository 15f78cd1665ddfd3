-- Delivering: in a run a message that waits is never refused. Assumes nothing.
use Rattle.std.proofs.Common.{Option, Some, None}
use Rattle.std.proofs.lemmas.Bool.Decides.{nat_tests}
use Prim.Native.Nat.{ℕ, ◌<◌}
use mathlib.Core.Path.{◌≡◌, refl}
use mathlib.Core.Bool.{false}
use mathlib.Core.List.{List}
use native.Mathlib.Omega.{arith}
use Rattle.rules.specs.declared.message.Message.{Message}
use borrow.Author.Tests.{le-ltb}
use Rattle.handshake.specs.History.{Entry}
use Rattle.ground.specs.Limits.{most_value}
use Rattle.ground.specs.Refusals.{answer_of}
use Rattle.rules.specs.Rules.{fill}
use Rattle.station.specs.Side.{side_for}
use Rattle.station.proofs.Parts.{message_parts}
use Rattle.pool.specs.Pool.{most_places, is_empty}
use Rattle.table.specs.Table.{station_at, waiting_at}
use Rattle.steps.specs.Steps.{deliver_step, overfills, step_refusals, step_done, step_of}
use Rattle.steps.specs.declared.asked.Step.TheVariants.{Deliver}
use Rattle.table.specs.declared.table.Table.{Table}
use Rattle.table.proofs.Tables.{table_parts, waits}
use Rattle.runs.proofs.Reached.{Reached}
use Rattle.runs.proofs.Changes.{fill_fits, taken_goes}
use Rattle.runs.proofs.Refused.{StepGoes, done_plain, by_answer}

module _ {t : Table} {H : List (Entry ℕ)} {plus minus : ℕ} (r : Reached t H plus minus) (p : ℕ) where
  -- what waits does not overfill the station that it is for
  fits : p < most_places → (v : Option Message) → waiting_at t p ≡ v → overfills t v ≡ false
  fits h None e = refl
  fits h (Some m) e =
      let there = waits m t.count (rw e at ((table_parts t r.sound).places p h)) in
      let shows = message_parts m there.sound in
      le-ltb most_value (fill (side_for (station_at t m.to) m.from) m).side.value (fill_fits r p m e shows.other there.from there.to)

  taken : p < most_places → (v : Option Message) → waiting_at t p ≡ v → is_empty v ≡ false
      → StepGoes t (Deliver p) H (deliver_step t v)
  taken h None e z = cc
  taken h (Some m) e z =
      let there = waits m t.count (rw e at ((table_parts t r.sound).places p h)) in
      let shows = message_parts m there.sound in
      record { goes = rw e (taken_goes r p m e shows.other there.from there.to); answer = done_plain }

  pub deliver_goes : StepGoes t (Deliver p) H (step_of t (Deliver p))
  unfolding step_of
  deliver_goes =
      by_answer r (Deliver p) (answer_of (step_refusals t (Deliver p))) (step_done t (Deliver p))
      (let room : p < most_places → overfills t (waiting_at t p) ≡ false = λ h. fits h (waiting_at t p) refl in
      (grind (arith, nat_tests), grind (arith, nat_tests)))
      (λ z. taken (grind (arith, nat_tests)) (waiting_at t p) refl (grind (arith, nat_tests)))
