-- Builds with one thing wrong, as it has been got wrong, and for each the steps that show it. (Two
-- are not among them, and demand 2 rules them out: rule 3 with i's value from before the fill,
-- which asks for too much, and a draw of what is there where more is asked, which is
-- `what_is_there`.)
use Rattle.std.specs.Prelude.{ℕ, zero, suc, ◌+◌, ◌-◌, min, cond, ◌&&◌, List, [], ◌∷◌, ◌++◌, eqb, ltb, Option, Some, None}
use Rattle.rules.specs.declared.held.Token.{Token}
use Rattle.rules.specs.declared.held.Slot.{Slot}
use Rattle.rules.specs.declared.side.Side.{Side}
use Rattle.rules.specs.declared.rules.Ruled.{Ruled}
use Rattle.ground.specs.Limits.{last_clock}
use Rattle.rules.specs.Report.{no_report}
use Rattle.rules.specs.Side.{put_value, put_slot, put_token}
use Rattle.rules.specs.Rules.{acts, rests, fill, drop_slot, open_slot, drop_token_by, drop_token, give, make_token}
use Rattle.rules.specs.Taking.{reported}
use Rattle.station.specs.Steps.{put_stock}
use Rattle.table.specs.Table.{station_at, put_station}
use Rattle.table.specs.Stepped.{did}
use Rattle.steps.specs.declared.asked.Step.{Step}
use Rattle.steps.specs.declared.asked.Step.TheVariants.{Add, Draw, Send, Deliver}
use Rattle.runs.specs.Runs.{Build}
use Rattle.runs.specs.Builds.{Taking, Drawing, takes_by, delivers_by, delivers_unasked, draws_by, draws_few_by, told_few}

-- the steps up to here: station 0 has 10 and shows it, station 1 opens slot (0,0) of 5 and shows
-- that, at place 1
abbrev pub slot_shown : List Step
slot_shown = Add 0 10 ∷ Send 0 1 ∷ Deliver 0 ∷ Send 1 0 ∷ []

-- 1. Fill by one clock: only the source clock is matched.
abbrev fill_by_one : Side → Option Token → Option Slot → Ruled
fill_by_one x (Some t) (Some l) =
    cond (eqb t.source.0 l.source.0) (acts t.quantity (put_slot (put_value x (x.value + t.quantity)) None)) (rests x)
fill_by_one x (Some t) None = rests x
fill_by_one x None h = rests x

abbrev pub one_clock : Build
one_clock = delivers_by (takes_by (λ x m. fill_by_one x m.token x.slot) drop_slot open_slot drop_token make_token)

-- the token of 5 is made and lands; after a late message the slot is (0,1), and the old token (0,0)
-- comes again
abbrev pub old_token : List Step
old_token = slot_shown ++ (Deliver 1 ∷ Send 0 1 ∷ Deliver 2 ∷ Deliver 0 ∷ Deliver 2 ∷ [])

-- 2. Rule 4 without a look at the message's slot: by the message's own clock, always.
abbrev pub slot_unseen : Build
slot_unseen = delivers_by (takes_by fill drop_slot open_slot (λ x m. drop_token_by x m.destination x.token) make_token)

-- the token of 5 is made, and the message with the slot (0,0) comes again: its passes have not
-- landed
abbrev pub slot_again : List Step
slot_again = slot_shown ++ (Deliver 1 ∷ Deliver 1 ∷ [])

-- 3. Rule 2 before rule 1.
abbrev takes_slot_first : Taking
takes_slot_first x m =
    let two = drop_slot x m in
    let one = fill two.side m in
    let three = open_slot one.side m in
    let four = drop_token three.side m in
    reported one two three four (make_token four.side m)

abbrev pub slot_first : Build
slot_first = delivers_by takes_slot_first

-- the token of 5 is made, and comes to its slot
abbrev pub token_comes : List Step
token_comes = slot_shown ++ (Deliver 1 ∷ Send 0 1 ∷ Deliver 2 ∷ [])

-- 4. The source clock left standing when q is 0.
abbrev give_standing : Side → Slot → ℕ → Side
give_standing x l zero = put_token x (Some (record { source = l.source; destination = l.destination; quantity = 0 }))
give_standing x l (suc q) = give x l (suc q)

abbrev make_standing : Side → Option Slot → Ruled
make_standing x (Some l) =
    cond (eqb l.source.0 x.source.0 && ltb x.source.0 last_clock)
    (acts (min x.value l.quantity) (give_standing x l (min x.value l.quantity)))
    (rests x)
make_standing x None = rests x

abbrev takes_standing : Taking
takes_standing = takes_by fill drop_slot open_slot drop_token (λ x m. make_standing x m.slot)

abbrev pub clock_stands : Build
clock_stands = delivers_by takes_standing

-- station 0 draws all it has, and makes a token of 0
abbrev pub token_of_nothing : List Step
token_of_nothing = slot_shown ++ (Draw 0 10 ∷ Deliver 1 ∷ [])

-- such a token is not sound, so that every later step is refused; the same in a build that does not
-- ask
abbrev pub clock_stands_unasked : Build
clock_stands_unasked = delivers_unasked takes_standing

-- and the message comes again
abbrev pub nothing_again : List Step
nothing_again = token_of_nothing ++ (Deliver 1 ∷ [])

-- 5. A draw that is done and takes less than it tells: it takes the amount, and tells all that was
-- there.
abbrev tells_more : Drawing
tells_more t k amount = let s = station_at t k in did s.value no_report (put_station t k (put_stock s (s.value - amount) s.intake))

abbrev pub draw_tells_more : Build
draw_tells_more = draws_by tells_more

-- a draw of less than is there
abbrev pub part_drawn : List Step
part_drawn = Add 0 10 ∷ Draw 0 3 ∷ []

-- 6. A draw that is refused by 15 and takes all the same: what is there is gone.
abbrev takes_refused : Drawing
takes_refused t k amount = let s = station_at t k in told_few (put_station t k (put_stock s 0 s.intake))

abbrev pub refused_draw_takes : Build
refused_draw_takes = draws_few_by takes_refused

-- a draw of more than is there
abbrev pub overdrawn : List Step
overdrawn = Add 0 10 ∷ Draw 0 20 ∷ []
