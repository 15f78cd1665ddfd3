-- What is looked up is there, and so is a place that a plan changes. Assumes nothing.
use Rattle.std.proofs.Common.{Option, Some, None}
use Prim.Native.Nat.{ℕ, ◌<◌}
use mathlib.Core.Path.{◌≡◌}
use mathlib.Core.Bool.{Bool, cond, not, ◌&&◌}
use native.Mathlib.Omega.{arith}
use Rattle.steps.specs.declared.asked.Step.{Step}
use Rattle.rules.specs.declared.message.Message.{Message}
use lib.Dec.{ltb, eqb}
use borrow.Author.Tests.{ltb-true, not-false}
use Rattle.rules.specs.declared.side.Side.{Side}
use Rattle.rules.specs.declared.taking.Taken.{Taken}
use Rattle.ground.specs.Limits.{most_stations}
use Rattle.rules.specs.Stock.{added_to, drawn_from}
use Rattle.rules.specs.Taking.{taken_of}
use Rattle.ground.proofs.Refusing.{passed}
use Rattle.ground.proofs.Choices.{either_way}
use Rattle.steps.specs.declared.looking.Looked.{Looked}
use Rattle.steps.specs.declared.planning.Change.TheVariants.{Nothing, AtSide, AtPlace}
use Rattle.steps.specs.declared.planning.Plan.{Plan}
use Rattle.steps.specs.declared.asked.Step.TheVariants.{Add, Draw, Send, Deliver, Lose}
use Rattle.pool.specs.Pool.{most_places}
use Rattle.steps.specs.Looking.{below, looked_at, seat_looked_at}
use Rattle.steps.specs.Planning.{refused_plan, planned, stock_done, place_plan, message_by, send_answer, acted_in, side_done, place_answer, deliver_by, lose_by, plan_at, InPool}

below_lt : (n limit : ℕ) → 0 < limit → below n limit < limit
below_lt n limit h = grind arith

-- a station and a peer
pub record There (l : Looked) : Type 0 where
  pub station : l.station < most_stations
  pub peer : l.peer < most_stations

looked_there : (station peer : ℕ) → There (looked_at station peer)
looked_there station peer = record { station = below_lt station most_stations (omega arith); peer = below_lt peer most_stations (omega arith) }

seat_by : (asked : Option Step) (w : Option Message) → There (seat_looked_at asked w)
seat_by asked w = grind (arith, looked_there)

pub seat_there : {l : Looked} (asked : Option Step) (w : Option Message) → l ≡ seat_looked_at asked w → There l
seat_there asked w e = rw e (seat_by asked w)

-- a plan that is refused changes nothing
by_plan : (n : ℕ) (p : Plan) → (n ≡ 0 → InPool p.change) → InPool (planned n p).change
by_plan n p f = either_way (λ (q : Plan). InPool q.change) n p (refused_plan n) f tt

side_pool : (r : Taken) (b : Bool) → InPool (cond b (AtSide r.side) Nothing)
side_pool r b = grind arith

deliver_pool : (w : Option Message) (x : Side) → InPool (deliver_by w x).change
deliver_pool None x = tt
deliver_pool (Some m) x = let r = taken_of x m in by_plan r.answer (side_done r) (λ e. side_pool r (acted_in r.report))

lose_pool : (p : ℕ) (w : Option Message) → p < most_places → InPool (lose_by p w).change
lose_pool p w h = grind arith

here : (p : ℕ) → place_answer p ≡ 0 → p < most_places
here p e = ltb-true p most_places (not-false _ (passed (not (ltb p most_places)) _ e).0)

plan_pool : (count : ℕ) (asked : Option Step) (intake : ℕ) (x : Side) (w : Option Message) (free : ℕ) → InPool (plan_at count asked intake x w free).change
plan_pool count None intake x w free = tt
plan_pool count (Some (Add k amount)) intake x w free = let r = added_to x.value intake amount in by_plan (cond (not (ltb k count)) 2 r.answer) (stock_done r) (λ e. tt)
plan_pool count (Some (Draw k amount)) intake x w free = let r = drawn_from x.value intake amount in by_plan (cond (not (ltb k count)) 2 r.answer) (stock_done r) (λ e. tt)
plan_pool count (Some (Send from to)) intake x w free =
    by_plan (send_answer from to count free) (place_plan free free (Some (message_by from to x)))
    (λ e.
    let one = passed (not (ltb from count && ltb to count)) _ e in
    let two = passed (eqb from to) _ one.1 in
    ltb-true free most_places (not-false _ (passed (not (ltb free most_places)) _ two.1).0))
plan_pool count (Some (Deliver p)) intake x w free = by_plan (place_answer p) (deliver_by w x) (λ e. deliver_pool w x)
plan_pool count (Some (Lose p)) intake x w free = by_plan (place_answer p) (lose_by p w) (λ e. lose_pool p w (here p e))

pub place_changed : {plan : Plan} {p : ℕ} {v : Option Message} (count : ℕ) (asked : Option Step) (intake : ℕ) (x : Side) (w : Option Message) (free : ℕ)
    → plan ≡ plan_at count asked intake x w free → plan.change ≡ AtPlace p v → p < most_places
place_changed {plan} count asked intake x w free e f =
    let there : InPool plan.change = rw e (plan_pool count asked intake x w free) in
    rw f at there
