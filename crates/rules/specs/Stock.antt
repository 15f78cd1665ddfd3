-- What an add and a draw do to a stock of passes: a value, and the intake, which is all that was
-- ever added.
use Rattle.std.specs.Prelude.{ℕ, ◌+◌, ◌-◌, Bool, not, ◌&&◌, List, [], ◌∷◌, ltb, leb}
use Rattle.rules.specs.declared.stock.Stock.{Stock}
use Rattle.ground.specs.Limits.{most_amount, most_intake, most_value}
use Rattle.ground.specs.Answers.{done, not_sound, bad_amount, intake_limit, value_limit, too_few}
use Rattle.ground.specs.Refusals.{Refusal, when, answer_of}
use Rattle.ground.specs.Choice.{if_done}

-- value and intake are in range
abbrev pub stock_sound : ℕ → ℕ → Bool
stock_sound value intake = leb value most_value && leb intake most_intake

-- an amount is 1 to 1,000,000,000
abbrev pub amount_sound : ℕ → Bool
amount_sound amount = leb 1 amount && leb amount most_amount

-- a refusal: result 0, and the stock as it was
abbrev pub refused_stock : ℕ → ℕ → ℕ → Stock
refused_stock answer value intake = record { answer = answer; result = 0; value = value; intake = intake }

-- answer 0 is the stock as it then is; any other is a refusal
abbrev pub stocked : ℕ → ℕ → ℕ → Stock → Stock
stocked answer value intake later = if_done answer later (refused_stock answer value intake)

-- Add raises value and intake. Result: the new value.
abbrev pub add_to_refusals : ℕ → ℕ → ℕ → List Refusal
add_to_refusals value intake amount =
    when (not (stock_sound value intake)) not_sound
    ∷ when (not (amount_sound amount)) bad_amount
    ∷ when (ltb most_intake (intake + amount)) intake_limit
    ∷ when (ltb most_value (value + amount)) value_limit
    ∷ []

abbrev pub add_to_answer : ℕ → ℕ → ℕ → ℕ
add_to_answer value intake amount = answer_of (add_to_refusals value intake amount)

abbrev pub add_done : ℕ → ℕ → ℕ → Stock
add_done value intake amount = record { answer = done; result = value + amount; value = value + amount; intake = intake + amount }

unfoldable pub added_to : ℕ → ℕ → ℕ → Stock
added_to value intake amount = stocked (add_to_answer value intake amount) value intake (add_done value intake amount)

-- Draw takes the amount asked, all or none of it. Result: the amount.
abbrev pub draw_from_refusals : ℕ → ℕ → ℕ → List Refusal
draw_from_refusals value intake amount =
    when (not (stock_sound value intake)) not_sound
    ∷ when (not (amount_sound amount)) bad_amount
    ∷ when (ltb value amount) too_few
    ∷ []

abbrev pub draw_from_answer : ℕ → ℕ → ℕ → ℕ
draw_from_answer value intake amount = answer_of (draw_from_refusals value intake amount)

abbrev pub draw_done : ℕ → ℕ → ℕ → Stock
draw_done value intake amount = record { answer = done; result = amount; value = value - amount; intake = intake }

unfoldable pub drawn_from : ℕ → ℕ → ℕ → Stock
drawn_from value intake amount = stocked (draw_from_answer value intake amount) value intake (draw_done value intake amount)
