-- Builds put together from given parts, so that one part can be a wrong one. With the right parts
-- it is the right build.
use Rattle.std.specs.Prelude.{ℕ, true, cond, not, List, [], ◌∷◌, ltb, eqb, Option, Some, None}
use Rattle.rules.specs.declared.message.Message.{Message}
use Rattle.rules.specs.declared.rules.Ruled.{Ruled}
use Rattle.rules.specs.declared.side.Side.{Side}
use Rattle.rules.specs.declared.taking.Taken.{Taken}
use Rattle.ground.specs.Answers.{not_sound, no_such_place, empty_place, too_few}
use Rattle.ground.specs.Refusals.{Refusal, when, answer_of}
use Rattle.rules.specs.Report.{no_report}
use Rattle.rules.specs.Rules.{fill, drop_slot, open_slot, drop_token, make_token}
use Rattle.rules.specs.Taking.{reported}
use Rattle.station.specs.Side.{side_for, put_side}
use Rattle.steps.specs.declared.asked.Step.{Step}
use Rattle.steps.specs.declared.asked.Step.TheVariants.{Add, Draw, Send, Deliver, Lose}
use Rattle.table.specs.declared.stepped.Stepped.{Stepped}
use Rattle.table.specs.declared.table.Table.{Table}
use Rattle.pool.specs.Pool.{most_places, is_empty}
use Rattle.table.specs.Table.{station_at, waiting_at, put_station}
use Rattle.table.specs.Stepped.{did, answered_step}
use Rattle.steps.specs.Steps.{step_refusals, step_done}
use Rattle.runs.specs.Runs.{Build}

-- a rule, the taking of a message by the rules, what a draw of an amount does at a station, and the
-- refusals of a step
abbrev pub Rule : Type 0
Rule = Side → Message → Ruled

abbrev pub Taking : Type 0
Taking = Side → Message → Taken

abbrev pub Drawing : Type 0
Drawing = Table → ℕ → ℕ → Stepped

abbrev pub Refusing : Type 0
Refusing = Table → Step → List Refusal

-- five rules in order, each at what the earlier ones left
abbrev pub takes_by : Rule → Rule → Rule → Rule → Rule → Taking
takes_by rule1 rule2 rule3 rule4 rule5 x m =
    let one = rule1 x m in
    let two = rule2 one.side m in
    let three = rule3 two.side m in
    let four = rule4 three.side m in
    reported one two three four (rule5 four.side m)

abbrev pub right_taking : Taking
right_taking = takes_by fill drop_slot open_slot drop_token make_token

abbrev pub right_drawing : Drawing
right_drawing t k amount = step_done t (Draw k amount)

-- a delivery by a given taking
abbrev pub delivered_by : Taking → Table → Option Message → Stepped
delivered_by takes t None = did 0 no_report t
delivered_by takes t (Some m) =
    let s = station_at t m.to in
    let r = takes (side_for s m.from) m in
    did r.result r.report (put_station t m.to (put_side s m.from r.side))

-- a draw and a delivery with the given parts; add, send and lose as they are
abbrev done_with : Drawing → Taking → Table → Step → Stepped
done_with draws takes t (Add k amount) = step_done t (Add k amount)
done_with draws takes t (Draw k amount) = draws t k amount
done_with draws takes t (Send from to) = step_done t (Send from to)
done_with draws takes t (Deliver p) = delivered_by takes t (waiting_at t p)
done_with draws takes t (Lose p) = step_done t (Lose p)

unfoldable pub built_with : Refusing → Drawing → Taking → Build
built_with refuses draws takes t step = answered_step (answer_of (refuses t step)) t (done_with draws takes t step)

-- only the taking is given
abbrev pub delivers_by : Taking → Build
delivers_by takes = built_with step_refusals right_drawing takes

-- all that is lent is taken for sound: the first refusal is left out, and no delivery of a message
-- is refused
abbrev later : List Refusal → List Refusal
later [] = []
later (r ∷ rs) = rs

abbrev unasked : Refusing
unasked t (Add k amount) = later (step_refusals t (Add k amount))
unasked t (Draw k amount) = later (step_refusals t (Draw k amount))
unasked t (Send from to) = later (step_refusals t (Send from to))
unasked t (Deliver p) = when (not (ltb p most_places)) no_such_place ∷ when (is_empty (waiting_at t p)) empty_place ∷ []
unasked t (Lose p) = later (step_refusals t (Lose p))

abbrev pub delivers_unasked : Taking → Build
delivers_unasked takes = built_with unasked right_drawing takes

-- only the draw that is done is given
abbrev pub draws_by : Drawing → Build
draws_by draws = built_with step_refusals draws right_taking

-- only that is given which a draw comes to where fewer passes are there than asked: 15 is not
-- looked for before
abbrev without : ℕ → List Refusal → List Refusal
without n [] = []
without n (r ∷ rs) = cond (eqb r.number n) (without n rs) (r ∷ without n rs)

abbrev pub few_or : Drawing → Drawing
few_or few t k amount = cond (ltb (station_at t k).value amount) (few t k amount) (right_drawing t k amount)

abbrev pub draws_few_by : Drawing → Build
draws_few_by few = built_with (λ t step. without too_few (step_refusals t step)) (few_or few) right_taking

-- told as refused by 15, with this table after it
abbrev pub told_few : Table → Stepped
told_few t = record { answer = too_few; result = 0; report = no_report; table = t }

abbrev pub right_few : Drawing
right_few t k amount = told_few t

-- every table is taken for unsound
abbrev pub refuses_all : Build
refuses_all = built_with (λ t step. when true not_sound ∷ []) right_drawing right_taking
