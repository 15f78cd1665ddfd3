-- A script's lines by the position that they start at, and what several of them ask for.
use Rattle.std.specs.Prelude.{ℕ, zero, suc, ◌+◌, cond, List, [], ◌∷◌, ◌++◌, ltb, length, drop, Option}
use Rattle.steps.specs.declared.asked.Step.{Step}
use Rattle.steps.specs.Running.{numbers_for}
use Rattle.script.specs.declared.reading.Read.{Read}
use Rattle.script.specs.Words.{index_of, up_to}
use Rattle.script.specs.Lines.{line_of}

-- the line that starts at a position: empty past the end
abbrev pub line_at : List ℕ → ℕ → List ℕ
line_at script at = up_to 10 (drop at script)

-- the position past that line and its line end, and never past the script's end
abbrev pub past_line : List ℕ → ℕ → ℕ
past_line script at = let rest = drop at script in cond (ltb (index_of 10 rest) (length rest)) (at + index_of 10 rest + 1) (length script)

-- what the lines from a position on ask for, at most so many, and the position past them
unfoldable pub lines_from : ℕ → List ℕ → ℕ → List (Option Step)
lines_from zero script at = []
lines_from (suc most) script at = cond (ltb at (length script)) (line_of (line_at script at) ∷ lines_from most script (past_line script at)) []

unfoldable pub past_lines : ℕ → List ℕ → ℕ → ℕ
past_lines zero script at = at
past_lines (suc most) script at = cond (ltb at (length script)) (past_lines most script (past_line script at)) at

abbrev pub lines_read : ℕ → List ℕ → ℕ → Read
lines_read most script at = record { lines = length (lines_from most script at); at = past_lines most script at }

-- the numbers of what is asked for, three for each
unfoldable pub numbers_for_all : List (Option Step) → List ℕ
numbers_for_all [] = []
numbers_for_all (x ∷ xs) = numbers_for x ++ numbers_for_all xs
