-- What the five rules did, as it is told.
use Rattle.std.specs.Prelude.{ℕ, ◌+◌, Bool, false, cond}
use Rattle.rules.specs.declared.report.Report.{Report}

-- no rule is named, the quantities are 0
abbrev pub no_report : Report
no_report = record { rule1 = false; rule2 = false; rule3 = false; rule4 = false; rule5 = false; opened = 0; made = 0 }

-- the rules that acted, as the sum of 1, 2, 4, 8, 16
abbrev pub number_if_acted : Bool → ℕ → ℕ
number_if_acted acted n = cond acted n 0

abbrev pub rules_of : Report → ℕ
rules_of r = number_if_acted r.rule1 1 + number_if_acted r.rule2 2 + number_if_acted r.rule3 4 + number_if_acted r.rule4 8 + number_if_acted r.rule5 16
