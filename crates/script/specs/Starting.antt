-- What starting a script does, and the line of a script that is refused.
use Rattle.std.specs.Prelude.{ℕ, ◌≡◌, Bool, true, false, cond, not, List, [], ◌∷◌, ltb, length, Option, Some, None, Result, Ok, Err}
use Rattle.std.proofs.lemmas.List.Edits.{sets}
use Rattle.ground.specs.Answers.{done, not_sound, bad_line, long_script, short_buffer}
use Rattle.ground.specs.Refusals.{Refusal, when, answer_of}
use Rattle.ground.specs.Choice.{if_done}
use Rattle.ground.specs.Tested.{number_of}
use Rattle.ground.specs.declared.refusal.Refusal.{Refusal as Why}
use Rattle.station.specs.Sound.{count_sound}
use Rattle.table.specs.declared.stepped.Stepped.{Stepped}
use Rattle.table.specs.Fresh.{blank_table, fresh_table_of}
use Rattle.script.specs.declared.starting.Run.{Run}
use Rattle.script.specs.declared.starting.Started.{Started}
use Rattle.ground.specs.declared.told.Told.{Told}
use Rattle.script.specs.Decimal.{step_line}
use Rattle.script.specs.Lines.{stations_of}
use Rattle.script.specs.Script.{most_bytes}
use Rattle.script.specs.Reading.{line_at, past_line}

-- a refused script hands back every number 0 and nothing held
abbrev pub not_started : ℕ → Started
not_started answer = record { answer = answer; result = 0; run = record { table = blank_table 0; at = 0; number = 0; finished = true } }

-- steps are numbered from 1, and their lines start at a position
abbrev pub start_with : Stepped → ℕ → Started
start_with made at =
    if_done made.answer
    (record { answer = done; result = 0; run = record { table = made.table; at = at; number = 1; finished = false } })
    (not_started made.answer)

abbrev pub start_for : Option ℕ → ℕ → Started
start_for None at = not_started bad_line
start_for (Some count) at = start_with (fresh_table_of count) at

-- the first line names no number of stations, or one that no table has
abbrev pub names_none : Option ℕ → Bool
names_none None = true
names_none (Some count) = false

abbrev pub names_bad : Option ℕ → Bool
names_bad None = false
names_bad (Some count) = not (count_sound count)

abbrev pub start_refusals : List ℕ → List Refusal
start_refusals script =
    let first = stations_of (line_at script 0) in
    when (ltb most_bytes (length script)) long_script ∷ when (names_none first) bad_line ∷ when (names_bad first) not_sound ∷ []

-- refused by 13, 12, 1
unfoldable pub started_of : List ℕ → Started
started_of script = cond (ltb most_bytes (length script)) (not_started long_script) (start_for (stations_of (line_at script 0)) (past_line script 0))

-- a run before its first step, or why there is none
abbrev pub started_with : Result Run Why → Started
started_with (Ok run) = record { answer = done; result = 0; run = run }
started_with (Err why) = not_started (number_of why)

-- `0 13 0` and its like
abbrev pub answer_line : ℕ → List ℕ
answer_line answer = step_line 0 answer 0

-- room for the longest line of a step
abbrev pub step_room : ℕ
step_room = 64

abbrev pub put_answer_refusals : List ℕ → List Refusal
put_answer_refusals out = when (ltb (length out) step_room) short_buffer ∷ []

-- refused by 14: then no byte is put
abbrev pub answer_bytes : ℕ → List ℕ → List ℕ
answer_bytes answer out = cond (ltb (length out) step_room) [] (answer_line answer)

abbrev pub put_answer_of : ℕ → List ℕ → Told
put_answer_of answer out = record { answer = answer_of (put_answer_refusals out); result = length (answer_bytes answer out) }

pub record PutsAnswer (answer : ℕ) (out : List ℕ) (r : Told) (later : List ℕ) : Type 0 where
  pub put : r ≡ put_answer_of answer out
  pub lent : later ≡ sets out 0 (answer_bytes answer out)
