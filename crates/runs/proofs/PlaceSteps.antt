-- Sending and losing: a message sent shows its sender as it is, and a message lost is gone. Assumes
-- nothing.
use Rattle.std.proofs.Common.{Some, None, arith}
use Rattle.std.proofs.lemmas.Option.{same_Some}
use Rattle.std.proofs.lemmas.Bool.Decides.{nat_tests}
use Prim.Native.Nat.{ℕ, ◌<◌}
use mathlib.Core.Path.{refl, subst}
use mathlib.Core.List.{List}
use Rattle.handshake.specs.History.{Entry}
use Rattle.handshake.specs.Web.{Present}
use Rattle.rules.specs.declared.message.Message.{Message}
use Rattle.ground.specs.Refusals.{answer_of}
use Rattle.station.specs.Steps.{message_for}
use Rattle.pool.specs.Pool.{lowest_empty}
use Rattle.table.specs.Table.{station_at}
use Rattle.steps.specs.Steps.{step_refusals, step_done, step_of}
use Rattle.steps.specs.declared.asked.Step.TheVariants.{Send, Lose}
use Rattle.table.specs.declared.table.Table.{Table}
use Rattle.steps.proofs.Kept.{sends}
use Rattle.table.proofs.Puts.{seat_of_lem}
use Rattle.table.proofs.Tables.{table_parts}
use Rattle.runs.proofs.Seen.{web_of, letter_of}
use Rattle.runs.proofs.Reached.{Reached}
use Rattle.runs.proofs.Changes.{place_goes}
use Rattle.runs.proofs.Refused.{StepGoes, done_plain, by_answer}

module _ {t : Table} {H : List (Entry ℕ)} {plus minus : ℕ} (r : Reached t H plus minus) where
  -- send: the message that the sender shows now
  shows_present : (from to : ℕ) → from < t.count → Present (web_of t) (letter_of (message_for (station_at t from) to))
  shows_present from to h =
      let number = (seat_of_lem (table_parts t r.sound) from h).number in
      rw number (record { source = refl; destination = refl; token = refl; slot = refl })

  pub send_goes : (from to : ℕ) → StepGoes t (Send from to) H (step_of t (Send from to))
  unfolding step_of
  send_goes from to =
      let p = lowest_empty t.pool in
      let m = message_for (station_at t from) to in
      by_answer r (Send from to) (answer_of (step_refusals t (Send from to))) (step_done t (Send from to))
      (grind (arith, nat_tests), grind (arith, nat_tests))
      (λ z.
      record {
        goes = place_goes r p (Some m) (λ k f. subst (λ (x : Message). Present (web_of t) (letter_of x)) (same_Some _ _ f) (shows_present from to (sends t from to z).from_below));
        answer = done_plain;
      })

  pub lose_goes : (p : ℕ) → StepGoes t (Lose p) H (step_of t (Lose p))
  unfolding step_of
  lose_goes p =
      by_answer r (Lose p) (answer_of (step_refusals t (Lose p))) (step_done t (Lose p))
      (grind (arith, nat_tests), grind (arith, nat_tests))
      (λ z. record { goes = place_goes r p None (λ m f. cc); answer = done_plain })
