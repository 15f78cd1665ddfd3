-- What the program's loop puts: a script started, and then turn after turn until the run is
-- finished, or the turns are used up.
use Rattle.std.specs.Prelude.{ℕ, zero, suc, ◌≡◌, true, false, cond, List, [], ◌++◌, length, take}
use Rattle.ground.specs.Choice.{if_done}
use Rattle.script.specs.declared.putting.PutLines.{PutLines}
use Rattle.script.specs.declared.starting.Run.{Run}
use Rattle.script.specs.Starting.{answer_line, started_of}
use Rattle.script.specs.Putting.{PutsLines, piece_of}

-- the bytes that so many turns put into a buffer of this room, each behind those before it, and the
-- run that they leave
unfoldable pub put_in : ℕ → ℕ → List ℕ → Run → List ℕ
put_in zero room script run = []
put_in (suc turns) room script run =
    cond run.finished [] (let piece = piece_of script run room in piece.bytes ++ put_in turns room script piece.run)

unfoldable pub run_in : ℕ → ℕ → List ℕ → Run → Run
run_in zero room script run = run
run_in (suc turns) room script run = cond run.finished run (run_in turns room script (piece_of script run room).run)

-- a refused script puts the line of its answer, and any other its turns
abbrev pub printed_in : ℕ → ℕ → List ℕ → List ℕ
printed_in turns room script =
    let started = started_of script in if_done started.answer (put_in turns room script started.run) (answer_line started.answer)

-- the turns that the program has: one more than the longest script has bytes
abbrev pub most_turns : ℕ
most_turns = 65537

-- The calls of such a loop. Each puts lines into a buffer of this room, whatever it held, and hands
-- over as many of its first bytes as the result says.
pub data Loops (script : List ℕ) (room : ℕ) : ℕ → Run → List ℕ → Run → Type 0 where
  used_up : {run : Run} → Loops script room 0 run [] run
  ended : {turns : ℕ} {run : Run} → run.finished ≡ true → Loops script room (suc turns) run [] run
  turned : {turns : ℕ} {run last : Run} {r : PutLines} {out later rest : List ℕ} → run.finished ≡ false → length out ≡ room → PutsLines script run out r later
      → Loops script room turns r.run rest last → Loops script room (suc turns) run (take r.result later ++ rest) last
