-- What a step comes to in a run; a refusal changes and reports nothing. Assumes nothing.
use Rattle.std.proofs.Common.{Option, Some, None}
use Prim.Native.Nat.{ℕ, zero, suc}
use mathlib.Core.Path.{◌≡◌, refl}
use mathlib.Core.Bool.{Bool, true, false, cond, ◌||◌, true≢false, or-true}
use mathlib.Core.List.{List, [], ◌++◌}
use mathlib.Core.Logic.{◌≢◌}
use native.Mathlib.Omega.{arith}
use Rattle.rules.specs.declared.message.Message.{Message}
use Rattle.rules.specs.declared.held.Token.{Token}
use Rattle.rules.specs.declared.held.Slot.{Slot}
use lib.Dec.{eqb}
use borrow.Author.Tests.{eq-eqb, ne_eqb}
use Rattle.handshake.specs.History.{Entry}
use Rattle.ground.specs.Answers.{done, not_sound, value_limit}
use Rattle.rules.specs.Report.{no_report}
use Rattle.table.specs.Stepped.{answered_step}
use Rattle.steps.specs.declared.asked.Step.{Step}
use Rattle.steps.specs.declared.asked.Step.TheVariants.{Add, Draw, Send, Deliver, Lose}
use Rattle.table.specs.declared.stepped.Stepped.{Stepped}
use Rattle.table.specs.declared.table.Table.{Table}
use Rattle.runs.specs.Runs.{message_delivered, amount_added, amount_drawn, arrival_by, departure_by, entries_by}
use Rattle.runs.proofs.Reached.{Reached, Goes}
use Rattle.runs.proofs.Changes.{nothing_goes}

-- an answer that is neither 1 nor 10
abbrev pub Plain : ℕ → Type 0
Plain n = (n ≢ not_sound) × (n ≢ value_limit)

-- what a step comes to in a run
pub record StepGoes (t : Table) (step : Step) (H : List (Entry ℕ)) (s : Stepped) : Type 0 where
  pub goes : Goes t s.table H (entries_by (message_delivered t step) s.result s.report) (amount_added step s.answer) (amount_drawn step s.result)
  pub answer : Plain s.answer

-- a refusal makes no entry, adds nothing and draws nothing
no_entries : (v : Option Message) → entries_by v 0 no_report ≡ []
no_entries None = refl
no_entries (Some m) = both m.token m.slot
  where
    both : (h : Option Token) (l : Option Slot) → (arrival_by m h false 0 ++ departure_by m l false 0) ≡ []
    both None None = refl
    both None (Some l) = refl
    both (Some t) None = refl
    both (Some t) (Some l) = refl

adds_nothing : (step : Step) (n : ℕ) → amount_added step (suc n) ≡ 0
adds_nothing (Add k amount) n = rw (ne_eqb (suc n) 0 (λ e. omega arith))
adds_nothing (Draw k amount) n = refl
adds_nothing (Send from to) n = refl
adds_nothing (Deliver p) n = refl
adds_nothing (Lose p) n = refl

draws_nothing : (step : Step) → amount_drawn step 0 ≡ 0
draws_nothing (Add k amount) = refl
draws_nothing (Draw k amount) = refl
draws_nothing (Send from to) = refl
draws_nothing (Deliver p) = refl
draws_nothing (Lose p) = refl

-- the first refusal that applies is plain, or a later one is
pub plain_first : (b : Bool) (n later : ℕ) → Plain n → (b ≡ false → Plain later) → Plain (cond b n later)
plain_first true n later p q = p
plain_first false n later p q = q refl

-- each number but 1 and 10
pub plain : (n : ℕ) → (eqb n not_sound || eqb n value_limit) ≡ false → Plain n
plain n e = (λ f. true≢false (rw (eq-eqb n not_sound f) at e), λ f. true≢false (rw (eq-eqb n value_limit f, or-true) at e))

pub done_plain : Plain done
done_plain = (omega arith, omega arith)

module _ {t : Table} {H : List (Entry ℕ)} {plus minus : ℕ} (r : Reached t H plus minus) where
  -- a step that is refused, or done
  pub by_answer : (step : Step) (n : ℕ) (d : Stepped) → Plain n → (n ≡ 0 → StepGoes t step H d) → StepGoes t step H (answered_step n t d)
  by_answer step zero d a f = f refl
  by_answer step (suc n) d a f =
      record { goes = rw (no_entries (message_delivered t step), adds_nothing step n, draws_nothing step) (nothing_goes r); answer = a }
