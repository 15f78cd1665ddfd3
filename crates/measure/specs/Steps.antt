-- Steps given as numbers, from a fresh table on.
use Rattle.std.specs.Prelude.{ℕ, ◌/◌, List, [], ◌∷◌, ◌≡◌, length, Option}
use Rattle.steps.specs.declared.asked.Step.{Step}
use Rattle.table.specs.declared.table.Table.{Table}
use Rattle.table.specs.Fresh.{fresh_table_of}
use Rattle.steps.specs.Running.{asked_step, asked_in, ran_of, told_in_run}

-- the last result of what is asked for, one after the other
unfoldable pub last_result : Table → ℕ → List (Option Step) → ℕ
last_result t last [] = last
last_result t last (x ∷ xs) = let s = asked_step t x in last_result s.table s.result xs

-- of all whole threes of numbers
abbrev pub last_result_of : ℕ → List ℕ → ℕ
last_result_of count codes = last_result (fresh_table_of count).table 0 (asked_in (length codes / 3) codes)

-- a run in one call: how many steps were done, and what they told
pub record RunsFresh (count : ℕ) (codes told : List ℕ) (r : ℕ) (later : List ℕ) : Type 0 where
  pub ran : r ≡ (ran_of (fresh_table_of count).table codes told).result
  pub lent : later ≡ told_in_run (fresh_table_of count).table codes told
