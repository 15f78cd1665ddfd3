-- What a step will do, by no more of a table than it looks at: the count, one station's stock and
-- its side to one peer, what waits at one place, and the lowest-numbered empty place.
use Rattle.std.specs.Prelude.{ℕ, ◌<◌, Bool, cond, not, ◌&&◌, ◌||◌, [], ◌∷◌, ltb, eqb, Option, Some, None}
use Rattle.steps.specs.declared.asked.Step.{Step}
use Rattle.rules.specs.declared.message.Message.{Message}
use Rattle.rules.specs.declared.report.Report.{Report}
use Rattle.rules.specs.declared.side.Side.{Side}
use Rattle.rules.specs.declared.stock.Stock.{Stock}
use Rattle.rules.specs.declared.taking.Taken.{Taken}
use Rattle.ground.specs.Answers.{done, not_below_count, same_station, pool_full, no_such_place, empty_place, bad_line}
use Rattle.ground.specs.Refusals.{when, answer_of}
use Rattle.ground.specs.Choice.{if_done}
use Rattle.rules.specs.Report.{no_report}
use Rattle.rules.specs.Stock.{added_to, drawn_from}
use Rattle.rules.specs.Taking.{taken_of}
use Rattle.station.specs.Side.{put_side}
use Rattle.station.specs.Steps.{put_stock}
use Rattle.steps.specs.declared.planning.Change.{Change}
use Rattle.steps.specs.declared.planning.Change.TheVariants.{Nothing, AtStock, AtSide, AtPlace}
use Rattle.steps.specs.declared.planning.Plan.{Plan}
use Rattle.steps.specs.declared.asked.Step.TheVariants.{Add, Draw, Send, Deliver, Lose}
use Rattle.table.specs.declared.table.Table.{Table}
use Rattle.pool.specs.Pool.{most_places}
use Rattle.table.specs.Table.{station_at, put_station, put_place}

-- a refusal has result 0, names no rule, and changes nothing
abbrev pub refused_plan : ℕ → Plan
refused_plan n = record { answer = n; result = 0; report = no_report; change = Nothing }

-- answer 0 is the plan; any other is a refusal
abbrev pub planned : ℕ → Plan → Plan
planned answer p = if_done answer p (refused_plan answer)

-- add and draw: 2, then as the stock tells
abbrev pub stock_done : Stock → Plan
stock_done r = record { answer = done; result = r.result; report = no_report; change = AtStock r.value r.intake }

abbrev pub stock_plan : ℕ → ℕ → Stock → Plan
stock_plan k count r = planned (cond (not (ltb k count)) not_below_count r.answer) (stock_done r)

abbrev pub place_plan : ℕ → ℕ → Option Message → Plan
place_plan p result w = record { answer = done; result = result; report = no_report; change = AtPlace p w }

-- send: 2, 3, 6
abbrev pub message_by : ℕ → ℕ → Side → Message
message_by from to x =
    record { from = from; to = to; value = x.value; source = x.source; destination = x.destination; slot = x.slot; token = x.token }

abbrev pub send_answer : ℕ → ℕ → ℕ → ℕ → ℕ
send_answer from to count free =
    answer_of
    (when (not (ltb from count && ltb to count)) not_below_count ∷ when (eqb from to) same_station ∷ when (not (ltb free most_places)) pool_full ∷ [])

abbrev pub send_plan : ℕ → ℕ → ℕ → Side → ℕ → Plan
send_plan from to count x free = planned (send_answer from to count free) (place_plan free free (Some (message_by from to x)))

-- deliver: 7, 8, then as the rules tell; where none acted, nothing changes
abbrev pub acted_in : Report → Bool
acted_in r = r.rule1 || r.rule2 || r.rule3 || r.rule4 || r.rule5

abbrev pub side_done : Taken → Plan
side_done r = record { answer = done; result = r.result; report = r.report; change = cond (acted_in r.report) (AtSide r.side) Nothing }

abbrev pub side_plan : Taken → Plan
side_plan r = planned r.answer (side_done r)

abbrev pub place_answer : ℕ → ℕ
place_answer p = cond (not (ltb p most_places)) no_such_place done

abbrev pub deliver_by : Option Message → Side → Plan
deliver_by None x = refused_plan empty_place
deliver_by (Some m) x = side_plan (taken_of x m)

abbrev pub deliver_plan : ℕ → Option Message → Side → Plan
deliver_plan p w x = planned (place_answer p) (deliver_by w x)

-- lose: 7, 8
abbrev pub lose_by : ℕ → Option Message → Plan
lose_by p None = refused_plan empty_place
lose_by p (Some m) = place_plan p 0 None

abbrev pub lose_plan : ℕ → Option Message → Plan
lose_plan p w = planned (place_answer p) (lose_by p w)

-- what names no step is refused by 12
abbrev pub plan_at : ℕ → Option Step → ℕ → Side → Option Message → ℕ → Plan
plan_at count None intake x w free = refused_plan bad_line
plan_at count (Some (Add k amount)) intake x w free = stock_plan k count (added_to x.value intake amount)
plan_at count (Some (Draw k amount)) intake x w free = stock_plan k count (drawn_from x.value intake amount)
plan_at count (Some (Send from to)) intake x w free = send_plan from to count x free
plan_at count (Some (Deliver p)) intake x w free = deliver_plan p w x
plan_at count (Some (Lose p)) intake x w free = lose_plan p w

-- the table with what a plan changes: at station k, or its side to station j, or a place
abbrev pub changed : Table → ℕ → ℕ → Change → Table
changed t k j Nothing = t
changed t k j (AtStock value intake) = put_station t k (put_stock (station_at t k) value intake)
changed t k j (AtSide x) = put_station t k (put_side (station_at t k) j x)
changed t k j (AtPlace p w) = put_place t p w

-- a place that is changed is there
abbrev pub InPool : Change → Type 0
InPool Nothing = Unit {0}
InPool (AtStock value intake) = Unit {0}
InPool (AtSide x) = Unit {0}
InPool (AtPlace p w) = p < most_places
