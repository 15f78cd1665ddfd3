-- Taking a message: the five rules in order, each at what the earlier ones left.
use Rattle.std.specs.Prelude.{ℕ, ◌≤◌, Bool, true, not, ◌&&◌, List, [], ◌∷◌, ltb, leb, Option, Some, None}
use Rattle.rules.specs.declared.held.Token.{Token}
use Rattle.rules.specs.declared.message.Message.{Message}
use Rattle.rules.specs.declared.side.Side.{Side}
use Rattle.rules.specs.declared.rules.Ruled.{Ruled}
use Rattle.rules.specs.declared.taking.Taken.{Taken}
use Rattle.ground.specs.Limits.{most_value}
use Rattle.ground.specs.Answers.{done, not_sound, no_record, value_limit}
use Rattle.rules.specs.Report.{no_report}
use Rattle.ground.specs.Refusals.{Refusal, when, answer_of}
use Rattle.ground.specs.Choice.{if_done}
use Rattle.rules.specs.Rules.{fill, drop_slot, open_slot, drop_token, make_token}

-- the result is the amount filled; the report says which rules acted, and the quantities of a slot
-- opened and of a token made
abbrev pub reported : Ruled → Ruled → Ruled → Ruled → Ruled → Taken
reported one two three four five =
    record {
      answer = done;
      result = one.quantity;
      report =
          record {
            rule1 = one.acted;
            rule2 = two.acted;
            rule3 = three.acted;
            rule4 = four.acted;
            rule5 = five.acted;
            opened = three.quantity;
            made = five.quantity;
          };
      side = five.side;
    }

unfoldable pub five_rules : Side → Message → Taken
five_rules x m =
    let one = fill x m in
    let two = drop_slot one.side m in
    let three = open_slot two.side m in
    let four = drop_token three.side m in
    reported one two three four (make_token four.side m)

-- what a message shows is in range as far as the rules lean on it: its value, and the quantity of
-- its token
abbrev pub token_small : Option Token → Bool
token_small None = true
token_small (Some t) = leb t.quantity most_value

abbrev pub message_small : Message → Bool
message_small m = leb m.value most_value && token_small m.token

-- a side or a message out of range is refused, and a fill that would pass the limit
abbrev pub take_refusals : Side → Message → List Refusal
take_refusals x m =
    when (ltb most_value x.value) not_sound
    ∷ when (not (message_small m)) no_record
    ∷ when (ltb most_value (fill x m).side.value) value_limit
    ∷ []

abbrev pub take_answer : Side → Message → ℕ
take_answer x m = answer_of (take_refusals x m)

-- a refusal has result 0, no rule named, and the side as it was
abbrev pub refused_taking : ℕ → Side → Taken
refused_taking answer x = record { answer = answer; result = 0; report = no_report; side = x }

unfoldable pub taken_of : Side → Message → Taken
taken_of x m = if_done (take_answer x m) (five_rules x m) (refused_taking (take_answer x m) x)

-- the same range, as what the sums and differences of the rules ask for
abbrev pub TokenInRange : Option Token → Type 0
TokenInRange None = Unit {0}
TokenInRange (Some t) = t.quantity ≤ most_value

pub record Takes (x : Side) (m : Message) : Type 0 where
  pub value : x.value ≤ most_value
  pub shown : m.value ≤ most_value
  pub token : TokenInRange m.token
  pub room : (fill x m).side.value ≤ most_value
