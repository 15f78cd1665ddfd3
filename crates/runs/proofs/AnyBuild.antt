-- Demand 3 holds of every build each of whose steps goes on from what a run has reached and leaves
-- a sound table. Assumes nothing.
use Rattle.std.proofs.Common.{Some, slice_get}
use Rattle.std.proofs.lemmas.Bool.Decides.{nat_tests}
use Rattle.std.proofs.lemmas.Option.{same_Some}
use Prim.Native.Nat.{ℕ, zero, suc, ◌+◌}
use mathlib.Core.Path.{◌≡◌, refl, ap, subst}
use mathlib.Core.Bool.{true, false}
use mathlib.Core.List.{List, [], ◌∷◌, ◌++◌, append-nil, append_assoc}
use mathlib.Core.Logic.{⊎_elim}
use native.Mathlib.Nat.{add-zero, add_assoc}
use native.Mathlib.Omega.{arith}
use Rattle.handshake.specs.History.{Transfer, transfer, Entry, arrival, In}
use Rattle.handshake.proofs.Histories.{in_either}
use Rattle.handshake.proofs.Keeps.{stale_spent}
use Rattle.handshake.proofs.Passages.{SpentIn}
use Rattle.ground.specs.Answers.{done}
use Rattle.station.specs.Held.{slot_for, token_for}
use Rattle.station.specs.Sound.{count_sound}
use Rattle.rules.specs.declared.held.Token.{Token}
use Rattle.table.specs.Fresh.{fresh_table_of}
use Rattle.table.specs.Sound.{table_sound}
use Rattle.table.specs.Table.{station_at}
use Rattle.steps.specs.declared.asked.Step.{Step}
use Rattle.table.specs.declared.table.Table.{Table}
use Rattle.runs.specs.Demand3.{Demand3, waits_for}
use Rattle.runs.specs.Runs.{Build, Line, log_line, log_of, table_after, amount_added, amount_drawn, all_added, all_drawn, entries_by, history_of, amounting}
use Rattle.runs.proofs.FreshReached.{fresh_reached}
use Rattle.runs.proofs.Refused.{Plain, StepGoes}
use Rattle.runs.proofs.Reached.{Reached, Goes, goes_on}
use Rattle.runs.proofs.Ruled.{misfit}
use Rattle.runs.proofs.Seen.{token_seen, web_of}

-- a stored token for which no slot waits is spent
stale : {t : Table} {H : List (Entry ℕ)} {plus minus : ℕ} → Reached t H plus minus → (i j : ℕ) (k : Token)
    → token_for (station_at t i) j ≡ Some k → waits_for (slot_for (station_at t j) i) k ≡ false
    → SpentIn (web_of t) (transfer i j (amounting k.source.0 k.destination.0 k.quantity))
stale {t} r i j k e f =
    let token = amounting k.source.0 k.destination.0 k.quantity in
    stale_spent (r.holds.standing i j) token (ap token_seen e)
    (λ o. misfit (Some k) (slot_for (station_at t j) i) f token o.slot refl o.stands o.source o.destination)

fresh_count : (count : ℕ) → (fresh_table_of count).answer ≡ done → count_sound count ≡ true
unfolding fresh_table_of
fresh_count count e = grind (arith, nat_tests)

-- what each step of a build has to show
pub record EachStep (build : Build) : Type 0 where
  pub goes : {t : Table} {H : List (Entry ℕ)} {plus minus : ℕ} → Reached t H plus minus → (step : Step) → StepGoes t step H (build t step)
  pub keeps : (t : Table) (step : Step) → table_sound t ≡ true → table_sound (build t step).table ≡ true

module _ {build : Build} (each : EachStep build) where
  module _ {t : Table} {H : List (Entry ℕ)} {plus minus : ℕ} (r : Reached t H plus minus) (step : Step) where
    abbrev line : Line
    line = log_line t step (build t step)

    abbrev made : List (Entry ℕ)
    made = entries_by line.delivered line.result line.report

    step_goes : Goes t (build t step).table H made (amount_added step line.answer) (amount_drawn step line.result)
    step_goes = (each.goes r step).goes

    step_plain : Plain line.answer
    step_plain = (each.goes r step).answer

    step_reached : Reached (build t step).table (H ++ made) (plus + amount_added step line.answer) (minus + amount_drawn step line.result)
    step_reached = goes_on r step_goes (each.keeps t step r.sound)

  -- all steps
  run_reached : (steps : List Step) {t : Table} {H : List (Entry ℕ)} {plus minus : ℕ} → Reached t H plus minus
      → let log = log_of build t steps in Reached (table_after build t steps) (H ++ history_of log) (plus + all_added log) (minus + all_drawn log)
  unfolding log_of table_after all_added all_drawn history_of
  run_reached [] {plus = plus} {minus = minus} r = rw (append-nil, add-zero plus, add-zero minus) r
  run_reached (step ∷ steps) r = simp (append_assoc, add_assoc) at (run_reached steps (step_reached r step))

  run_plain : (steps : List Step) {t : Table} {H : List (Entry ℕ)} {plus minus : ℕ} → Reached t H plus minus
      → (i : ℕ) (x : Line) → slice_get (log_of build t steps) i ≡ Some x → Plain x.answer
  unfolding log_of
  run_plain [] r i x e = cc
  run_plain (step ∷ steps) r zero x e = subst (λ (y : Line). Plain y.answer) (same_Some _ _ e) (step_plain r step)
  run_plain (step ∷ steps) r (suc i) x e = run_plain steps (step_reached r step) i x e

  -- what is spent never arrives
  run_stays_out : (steps : List Step) {t : Table} {H : List (Entry ℕ)} {plus minus : ℕ} → Reached t H plus minus
      → (x : Transfer ℕ) → SpentIn (web_of t) x → In (arrival x) (history_of (log_of build t steps)) → ⊥
  unfolding log_of history_of
  run_stays_out [] r x s i = let e = i.1 in cc
  run_stays_out (step ∷ steps) {t} r x s i =
      let after = (step_goes r step).passage.spent x.maker x.receiver x.token.source x.token.destination s in
      ⊎_elim ((step_goes r step).passage.stays_out x s) (run_stays_out steps (step_reached r step) x after)
      (in_either (made r step) (history_of (log_of build (build t step).table steps)) i)

  pub by_each_step : (count : ℕ) → (fresh_table_of count).answer ≡ done → Demand3 build (fresh_table_of count).table
  by_each_step count e =
      let start = fresh_reached count (fresh_count count e) in
      record {
        accounted = λ steps.
            let r = run_reached steps start in
            record { passes = omega (arith, r.passes); pairing = r.holds.pairing; way = r.way; sound = r.sound; answers = run_plain steps start };
        stale = λ steps later i j k stored unmet n x there same.
            run_stays_out later (run_reached steps start) x
            (rw (same.maker, same.receiver, same.source, same.destination) (stale (run_reached steps start) i j k stored unmet)) (n, there);
      }
