-- The steps of a table: the refusals of each in their order, and what it does where none of them
-- holds.
use Rattle.std.specs.Prelude.{ℕ, ◌+◌, ◌-◌, Bool, false, not, ◌&&◌, List, [], ◌∷◌, ltb, eqb, Option, Some, None}
use Rattle.rules.specs.declared.message.Message.{Message}
use Rattle.ground.specs.Answers.{not_below_count, same_station, bad_amount, intake_limit, pool_full, no_such_place, empty_place, value_limit, too_few}
use Rattle.ground.specs.Limits.{most_intake, most_value}
use Rattle.ground.specs.Refusals.{Refusal, when, answer_of}
use Rattle.rules.specs.Report.{no_report}
use Rattle.rules.specs.Rules.{fill}
use Rattle.rules.specs.Stock.{amount_sound}
use Rattle.rules.specs.Taking.{five_rules}
use Rattle.station.specs.declared.station.Station.{Station}
use Rattle.station.specs.Side.{side_for, put_side}
use Rattle.station.specs.Steps.{put_stock, message_for}
use Rattle.table.specs.declared.table.Table.{Table}
use Rattle.steps.specs.declared.asked.Step.{Step}
use Rattle.steps.specs.declared.asked.Step.TheVariants.{Add, Draw, Send, Deliver, Lose}
use Rattle.table.specs.declared.stepped.Stepped.{Stepped}
use Rattle.pool.specs.Pool.{most_places, is_empty, lowest_empty}
use Rattle.table.specs.Table.{station_at, waiting_at, put_station, put_place}
use Rattle.table.specs.Sound.{unsound}
use Rattle.table.specs.Stepped.{did, answered_step}

-- Add raises value and intake. Result: the new value.
abbrev pub add_step : Table → ℕ → ℕ → Station → Stepped
add_step t k amount s = did (s.value + amount) no_report (put_station t k (put_stock s (s.value + amount) (s.intake + amount)))

-- Draw takes the amount asked, all or none of it. Result: the amount.
abbrev pub draw_step : Table → ℕ → ℕ → Station → Stepped
draw_step t k amount s = did amount no_report (put_station t k (put_stock s (s.value - amount) s.intake))

-- Send writes the sender's message into the lowest-numbered empty place. The sender does not
-- change. Result: the place.
abbrev pub send_step : Table → ℕ → Message → Stepped
send_step t p m = did p no_report (put_place t p (Some m))

-- Deliver lets the receiver take the message at a place by the five rules. The message stays.
-- Result: the amount filled, or 0.
abbrev pub take_step : Table → Message → Station → Stepped
take_step t m s = let r = five_rules (side_for s m.from) m in did r.result r.report (put_station t m.to (put_side s m.from r.side))

-- an empty place is refused, so the first line is not met with
abbrev pub deliver_step : Table → Option Message → Stepped
deliver_step t None = did 0 no_report t
deliver_step t (Some m) = take_step t m (station_at t m.to)

-- Lose empties a place. Result 0.
abbrev pub lose_step : Table → ℕ → Stepped
lose_step t p = did 0 no_report (put_place t p None)

-- a fill by rule 1 would bring the receiver's value above its limit
abbrev pub overfills : Table → Option Message → Bool
overfills t None = false
overfills t (Some m) = ltb most_value (fill (side_for (station_at t m.to) m.from) m).side.value

abbrev pub step_refusals : Table → Step → List Refusal
step_refusals t (Add k amount) =
    unsound t
    ∷ when (not (ltb k t.count)) not_below_count
    ∷ when (not (amount_sound amount)) bad_amount
    ∷ when (ltb most_intake ((station_at t k).intake + amount)) intake_limit
    ∷ when (ltb most_value ((station_at t k).value + amount)) value_limit
    ∷ []
step_refusals t (Draw k amount) =
    unsound t
    ∷ when (not (ltb k t.count)) not_below_count
    ∷ when (not (amount_sound amount)) bad_amount
    ∷ when (ltb (station_at t k).value amount) too_few
    ∷ []
step_refusals t (Send from to) =
    unsound t
    ∷ when (not (ltb from t.count && ltb to t.count)) not_below_count
    ∷ when (eqb from to) same_station
    ∷ when (not (ltb (lowest_empty t.pool) most_places)) pool_full
    ∷ []
step_refusals t (Deliver p) =
    unsound t
    ∷ when (not (ltb p most_places)) no_such_place
    ∷ when (is_empty (waiting_at t p)) empty_place
    ∷ when (overfills t (waiting_at t p)) value_limit
    ∷ []
step_refusals t (Lose p) = unsound t ∷ when (not (ltb p most_places)) no_such_place ∷ when (is_empty (waiting_at t p)) empty_place ∷ []

abbrev pub step_done : Table → Step → Stepped
step_done t (Add k amount) = add_step t k amount (station_at t k)
step_done t (Draw k amount) = draw_step t k amount (station_at t k)
step_done t (Send from to) = send_step t (lowest_empty t.pool) (message_for (station_at t from) to)
step_done t (Deliver p) = deliver_step t (waiting_at t p)
step_done t (Lose p) = lose_step t p

unfoldable pub step_of : Table → Step → Stepped
step_of t step = answered_step (answer_of (step_refusals t step)) t (step_done t step)
