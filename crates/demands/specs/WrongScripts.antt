-- For the promises of a script wrong outcomes that they rule out.
use Rattle.std.specs.Prelude.{ℕ}
use mathlib.Core.List.{List, [], ◌∷◌, ◌++◌, replicate}
use Rattle.script.specs.Lines.{word_stations, word_lose, word_add}
use Rattle.script.specs.Starting.{answer_bytes, put_answer_of, started_of}
use Rattle.script.specs.Putting.{piece_of}
use Rattle.demands.specs.Wrong.{Wrong}

-- `stations 2`, the same with a line `lose 5` behind it, and with a line `add` that cannot be read
abbrev pub opening : List ℕ
opening = word_stations ++ (32 ∷ 50 ∷ 10 ∷ [])

abbrev losing : List ℕ
losing = opening ++ word_lose ++ (32 ∷ 53 ∷ 10 ∷ [])

abbrev unread : List ℕ
unread = opening ++ word_add ++ (10 ∷ [])

abbrev pub wrong_scripts : List Wrong
wrong_scripts =
    -- start: takes a script with no bytes; starts the steps at the first line again
    record { promised = (started_of []).answer ∷ []; wrong = 0 ∷ [] }
    ∷ record { promised = let s = started_of losing in s.answer ∷ s.run.at ∷ []; wrong = 0 ∷ 0 ∷ [] }
    -- put_answer: cuts the line to the room that there is; tells the room as the result
    ∷ record { promised = answer_bytes 13 (0 ∷ 0 ∷ []); wrong = 48 ∷ 32 ∷ [] }
    ∷ record { promised = (put_answer_of 12 (replicate 64 0)).result ∷ []; wrong = 64 ∷ [] }
    -- put_lines: does a line that cannot be read; stops inside a line; never puts the closing lines
    ∷ record { promised = (piece_of unread (started_of unread).run 2048).bytes; wrong = 49 ∷ 32 ∷ 48 ∷ 32 ∷ 48 ∷ 10 ∷ [] }
    ∷ record { promised = (piece_of losing (started_of losing).run 2048).run.at ∷ []; wrong = 17 ∷ [] }
    ∷ record { promised = (piece_of opening (started_of opening).run 2048).bytes; wrong = [] }
    ∷ []
