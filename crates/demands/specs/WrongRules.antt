-- Wrong outcomes of what is done at one side and to a stock.
use Rattle.std.specs.Prelude.{ℕ, true, false, List, [], ◌∷◌, ◌++◌, Some, None}
use Rattle.rules.specs.declared.held.Slot.{Slot}
use Rattle.rules.specs.declared.held.Terms.{Terms}
use Rattle.rules.specs.declared.held.Token.{Token}
use Rattle.rules.specs.declared.report.Report.{Report}
use Rattle.rules.specs.declared.side.Side.{Side}
use Rattle.rules.specs.declared.stock.Stock.{Stock}
use Rattle.rules.specs.declared.taking.Taken.{Taken}
use Rattle.ground.specs.Limits.{most_intake}
use Rattle.rules.specs.Report.{rules_of}
use Rattle.rules.specs.Stock.{added_to, drawn_from}
use Rattle.rules.specs.Taking.{taken_of}
use Rattle.demands.specs.Samples.{slot, slot_numbers, token_numbers}
use Rattle.rules.specs.Terms.{slot_terms, slot_on, token_terms, token_on}
use Rattle.demands.specs.Wrong.{Wrong, pays}

-- a side with this value that waits for 5
abbrev pub waiting_for_five : ℕ → Side
waiting_for_five value = record { value = value; source = record { 0 = 0 }; destination = record { 0 = 1 }; slot = slot 0 0 5; token = None }

-- answer, result, value, and the slot
abbrev taken_numbers : Taken → List ℕ
taken_numbers r = (r.answer ∷ r.result ∷ r.side.value ∷ []) ++ slot_numbers r.side.slot

abbrev stock_numbers : Stock → List ℕ
stock_numbers r = r.answer ∷ r.result ∷ r.value ∷ r.intake ∷ []

-- rules 1 and 3 acted
abbrev one_and_three : Report
one_and_three = record { rule1 = true; rule2 = false; rule3 = true; rule4 = false; rule5 = false; opened = 3; made = 0 }

-- clocks that differ, with 5
abbrev some_terms : Terms
some_terms = record { source = record { 0 = 1 }; destination = record { 0 = 2 }; quantity = 5 }

abbrev some_slot : Slot
some_slot = record { source = record { 0 = 1 }; destination = record { 0 = 2 }; quantity = 5 }

abbrev some_token : Token
some_token = record { source = record { 0 = 1 }; destination = record { 0 = 2 }; quantity = 5 }

abbrev terms_numbers : Terms → List ℕ
terms_numbers n = n.source.0 ∷ n.destination.0 ∷ n.quantity ∷ []

abbrev pub wrong_rules : List Wrong
wrong_rules =
    -- take: leaves the slot that it fills; fills past the limit
    record { promised = taken_numbers (taken_of (waiting_for_five 2) pays); wrong = 0 ∷ 5 ∷ 7 ∷ 0 ∷ 0 ∷ 5 ∷ [] }
    ∷ record { promised = taken_numbers (taken_of (waiting_for_five 16000000000) pays); wrong = 0 ∷ 5 ∷ 16000000005 ∷ [] }
    -- add_to: tells the amount; adds past the limit of the intake
    ∷ record { promised = stock_numbers (added_to 3 3 4); wrong = 0 ∷ 4 ∷ 7 ∷ 7 ∷ [] }
    ∷ record { promised = stock_numbers (added_to 0 most_intake 1); wrong = 0 ∷ 1 ∷ 1 ∷ 1000000001 ∷ [] }
    -- draw_from: takes less than it tells; lowers the intake; gives what is there where more is
    -- asked; takes that where it refuses
    ∷ record { promised = stock_numbers (drawn_from 3 3 2); wrong = 0 ∷ 3 ∷ 1 ∷ 3 ∷ [] }
    ∷ record { promised = stock_numbers (drawn_from 3 3 2); wrong = 0 ∷ 2 ∷ 1 ∷ 1 ∷ [] }
    ∷ record { promised = stock_numbers (drawn_from 3 3 5); wrong = 0 ∷ 3 ∷ 0 ∷ 3 ∷ [] }
    ∷ record { promised = stock_numbers (drawn_from 3 3 5); wrong = 15 ∷ 0 ∷ 0 ∷ 3 ∷ [] }
    -- rules_of: tells how many rules acted; leaves the third out
    ∷ record { promised = rules_of one_and_three ∷ []; wrong = 2 ∷ [] }
    ∷ record { promised = rules_of one_and_three ∷ []; wrong = 1 ∷ [] }
    -- terms of a slot, and of a token: with the clocks changed over; with quantity 0
    ∷ record { promised = terms_numbers (slot_terms some_slot); wrong = 2 ∷ 1 ∷ 5 ∷ [] }
    ∷ record { promised = terms_numbers (slot_terms some_slot); wrong = 1 ∷ 2 ∷ 0 ∷ [] }
    ∷ record { promised = terms_numbers (token_terms some_token); wrong = 2 ∷ 1 ∷ 5 ∷ [] }
    ∷ record { promised = terms_numbers (token_terms some_token); wrong = 1 ∷ 2 ∷ 0 ∷ [] }
    -- on terms: likewise
    ∷ record { promised = slot_numbers (Some (slot_on some_terms)); wrong = 2 ∷ 1 ∷ 5 ∷ [] }
    ∷ record { promised = slot_numbers (Some (slot_on some_terms)); wrong = 1 ∷ 2 ∷ 0 ∷ [] }
    ∷ record { promised = token_numbers (Some (token_on some_terms)); wrong = 2 ∷ 1 ∷ 5 ∷ [] }
    ∷ record { promised = token_numbers (Some (token_on some_terms)); wrong = 1 ∷ 2 ∷ 0 ∷ [] }
    ∷ []
