-- For each clause of demand 3 a build, and steps for which that clause alone is false. (A draw that
-- tells more than it takes, and a source clock left standing, are among the other broken builds.)
use Rattle.std.specs.Prelude.{ℕ, ◌+◌, Bool, true, false, cond, ◌||◌, List, [], ◌∷◌, ◌++◌, Option, Some, None}
use Rattle.rules.specs.declared.held.Token.{Token}
use Rattle.rules.specs.declared.held.Slot.{Slot}
use Rattle.rules.specs.declared.message.Message.{Message}
use Rattle.rules.specs.declared.side.Side.{Side}
use Rattle.rules.specs.declared.rules.Ruled.{Ruled}
use Rattle.rules.specs.declared.taking.Taken.{Taken}
use Rattle.rules.specs.Side.{put_value, put_slot}
use Rattle.rules.specs.Rules.{acts, rests, agree, fill, drop_slot, open_slot, drop_token, make_token}
use Rattle.rules.specs.Taking.{reported}
use Rattle.steps.specs.declared.asked.Step.{Step}
use Rattle.steps.specs.declared.asked.Step.TheVariants.{Add, Draw, Send, Deliver}
use Rattle.runs.specs.Runs.{Build}
use Rattle.runs.specs.Builds.{Rule, takes_by, right_taking, delivers_by, refuses_all}
use Rattle.runs.specs.Broken.{slot_shown, token_of_nothing}

-- a build with another rule 5, and one with another rule 1
abbrev makes_by : Rule → Build
makes_by makes = delivers_by (takes_by fill drop_slot open_slot drop_token makes)

abbrev fills_by : Rule → Build
fills_by fills = delivers_by (takes_by fills drop_slot open_slot drop_token make_token)

-- what a token that stands for a slot carries, if it stands for that slot
abbrev stands : Option Token → Option Slot → Bool
stands (Some t) (Some l) = agree t l
stands (Some t) None = false
stands None h = false

abbrev carries : Option Token → ℕ
carries (Some t) = t.quantity
carries None = 0

-- departed_before: a token made is told of when the slot comes again, and so after the token has
-- landed
abbrev make_late : Rule
make_late x m =
    let late = stands x.token m.slot in
    record { acted = late; quantity = cond late (carries x.token) 0; side = (make_token x m).side }

abbrev pub told_late : Build
told_late = makes_by make_late

abbrev pub lands_first : List Step
lands_first = slot_shown ++ (Deliver 1 ∷ Send 0 1 ∷ Deliver 2 ∷ Deliver 1 ∷ [])

-- one_departure: a token made is told of, and again, with nothing, when the slot comes again
abbrev make_again : Rule
make_again x m = let r = make_token x m in record { acted = r.acted || stands x.token m.slot; quantity = r.quantity; side = r.side }

abbrev pub told_again : Build
told_again = makes_by make_again

-- one_arrival: a fill leaves the slot, and nothing else is done. A token of 0 lands twice
abbrev takes_staying_by : Bool → Side → Message → Taken
takes_staying_by true x m = let one = fill x m in let s = put_slot one.side x.slot in reported one (rests s) (rests s) (rests s) (rests s)
takes_staying_by false x m = right_taking x m

abbrev pub slot_stays : Build
slot_stays = delivers_by (λ x m. takes_staying_by (fill x m).acted x m)

abbrev pub nothing_twice : List Step
nothing_twice = token_of_nothing ++ (Send 0 1 ∷ Deliver 2 ∷ Deliver 2 ∷ [])

-- way: a token made is never told of
abbrev pub told_never : Build
told_never = makes_by (λ x m. rests (make_token x m).side)

abbrev pub token_made : List Step
token_made = slot_shown ++ (Deliver 1 ∷ [])

-- answers: every table is taken for unsound
abbrev pub never_sound : Build
never_sound = refuses_all

abbrev pub one_add : List Step
one_add = Add 0 10 ∷ []

-- stale: a token lands where no slot waits for it. The first delivery drops the slot, the second
-- fills
abbrev fill_gone : Side → Option Token → Option Slot → Ruled
fill_gone x (Some t) None = acts t.quantity (put_value x (x.value + t.quantity))
fill_gone x (Some t) (Some l) = rests x
fill_gone x None h = rests x

abbrev pub slot_gone : Build
slot_gone = fills_by (λ x m. fill_gone x m.token x.slot)

-- the token of 5 is made, its maker draws the rest and shows 0, so that no slot is opened; the slot
-- is dropped, and the token is stored and not on the way
abbrev pub slot_dropped : List Step
slot_dropped = slot_shown ++ (Deliver 1 ∷ Draw 0 5 ∷ Send 0 1 ∷ Deliver 2 ∷ [])

abbrev pub comes_again : List Step
comes_again = Deliver 2 ∷ []
