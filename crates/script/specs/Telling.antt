-- What steps are said to have done: a line for each, with its number, its answer and its result.
use Rattle.std.specs.Prelude.{ℕ, zero, suc, ◌+◌, List, [], ◌∷◌, ◌++◌, get_or, drop, Option}
use Rattle.steps.specs.declared.asked.Step.{Step}
use Rattle.table.specs.declared.table.Table.{Table}
use Rattle.steps.specs.Running.{asked_step}
use Rattle.script.specs.Decimal.{step_line}

-- one after the other from a table on, numbered from n
unfoldable pub lines_of_steps : ℕ → Table → List (Option Step) → List ℕ
lines_of_steps n t [] = []
lines_of_steps n t (x ∷ xs) = let s = asked_step t x in step_line n s.answer s.result ++ lines_of_steps (n + 1) s.table xs

-- the same from what so many steps told, five numbers for each
unfoldable pub lines_of_told : ℕ → ℕ → List ℕ → List ℕ
lines_of_told zero n told = []
lines_of_told (suc steps) n told = step_line n (get_or told 0 0) (get_or told 1 0) ++ lines_of_told steps (n + 1) (drop 5 told)
