-- The right parts make the right build, so that a broken build differs from it in its wrong part
-- only (and the unasked one in that it does not ask); and after the steps that show the broken
-- builds the right build has every pass. Assumes nothing.
use Rattle.std.proofs.Common.{Option, Some, None}
use Prim.Native.Nat.{ℕ, ◌+◌}
use mathlib.Core.Path.{◌≡◌, refl}
use mathlib.Core.Bool.{Bool, true, false, cond, not}
use mathlib.Core.List.{List, [], ◌∷◌, map}
use Rattle.rules.specs.declared.message.Message.{Message}
use lib.Dec.{ltb}
use Rattle.handshake.specs.History.{departure, transfer}
use Rattle.rules.specs.Stock.{amount_sound}
use Rattle.rules.specs.Taking.{five_rules}
use Rattle.steps.specs.declared.asked.Step.{Step}
use Rattle.steps.specs.declared.asked.Step.TheVariants.{Add, Draw, Send, Deliver, Lose}
use Rattle.table.specs.declared.stepped.Stepped.{Stepped}
use Rattle.table.specs.declared.table.Table.{Table}
use Rattle.table.specs.Table.{station_at, waiting_at}
use Rattle.table.specs.Sound.{table_sound}
use Rattle.table.specs.Fresh.{fresh_table_of}
use Rattle.table.specs.Stepped.{answered_step}
use Rattle.steps.specs.Steps.{deliver_step, step_done, step_of}
use Rattle.table.specs.Way.{at_stations, on_the_way}
use Rattle.runs.specs.Runs.{log_of, table_after, all_added, all_drawn, history_of, amounting}
use Rattle.runs.specs.Builds.{right_taking, right_drawing, delivered_by, built_with, delivers_by, delivers_unasked, draws_by, draws_few_by, told_few, right_few}
use Rattle.runs.specs.Broken.{old_token, slot_again, token_comes, token_of_nothing, nothing_again, part_drawn, overdrawn}
use Rattle.runs.proofs.WrittenOut.{written_out}

pub delivers_right : (t : Table) (w : Option Message) → delivered_by right_taking t w ≡ deliver_step t w
unfolding five_rules
delivers_right t None = refl
delivers_right t (Some m) = refl

pub right_taking_lem : (t : Table) (step : Step) → delivers_by right_taking t step ≡ step_of t step
unfolding built_with step_of
right_taking_lem t (Add k amount) = refl
right_taking_lem t (Draw k amount) = refl
right_taking_lem t (Send from to) = refl
right_taking_lem t (Deliver p) = rw (delivers_right t (waiting_at t p))
right_taking_lem t (Lose p) = refl

pub right_draw : (t : Table) (step : Step) → draws_by right_drawing t step ≡ step_of t step
right_draw t step = right_taking_lem t step

-- 15 looked for last, or by the draw itself: the same is told
few_told : (unsound past bad few : Bool) (t : Table) (d : Stepped)
    → answered_step (cond unsound 1 (cond past 2 (cond bad 4 0))) t (cond few (told_few t) d)
    ≡ answered_step (cond unsound 1 (cond past 2 (cond bad 4 (cond few 15 0)))) t d
few_told true past bad few t d = refl
few_told false true bad few t d = refl
few_told false false true few t d = refl
few_told false false false true t d = refl
few_told false false false false t d = refl

pub right_few_lem : (t : Table) (step : Step) → draws_few_by right_few t step ≡ step_of t step
unfolding built_with step_of
right_few_lem t (Add k amount) = refl
right_few_lem t (Draw k amount) =
    few_told (not (table_sound t)) (not (ltb k t.count)) (not (amount_sound amount)) (ltb (station_at t k).value amount) t (step_done t (Draw k amount))
right_few_lem t (Send from to) = refl
right_few_lem t (Deliver p) = rw (delivers_right t (waiting_at t p))
right_few_lem t (Lose p) = refl

-- the passes that are there and those drawn, and all that were added
abbrev balance_of : List Step → List ℕ
balance_of steps =
    let t = table_after step_of (fresh_table_of 2).table steps in
    let log = log_of step_of (fresh_table_of 2).table steps in
    (at_stations t + on_the_way t + all_drawn log) ∷ all_added log ∷ []

pub right_balances : map balance_of (old_token ∷ slot_again ∷ token_comes ∷ nothing_again ∷ part_drawn ∷ overdrawn ∷ [])
    ≡ (10 ∷ 10 ∷ []) ∷ (10 ∷ 10 ∷ []) ∷ (10 ∷ 10 ∷ []) ∷ (10 ∷ 10 ∷ []) ∷ (10 ∷ 10 ∷ []) ∷ (10 ∷ 10 ∷ []) ∷ []
unfolding written_out
right_balances = refl

-- the token of 0 departs once, also where no soundness is asked, and leaves a sound table
pub right_departs_once : history_of (log_of step_of (fresh_table_of 2).table nothing_again) ≡ departure (transfer 0 1 (amounting 0 0 0)) ∷ []
unfolding written_out
right_departs_once = refl

pub right_departs_once_unasked : history_of (log_of (delivers_unasked right_taking) (fresh_table_of 2).table nothing_again) ≡ departure (transfer 0 1 (amounting 0 0 0)) ∷ []
unfolding written_out
right_departs_once_unasked = refl

pub right_sound : table_sound (table_after step_of (fresh_table_of 2).table token_of_nothing) ≡ true
unfolding written_out
right_sound = refl
