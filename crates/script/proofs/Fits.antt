-- What a turn puts fits the buffer: the first bytes of the buffer, as many as the result says, are
-- the bytes put. Assumes nothing.
use Rattle.std.proofs.Common.{Option}
use Prim.Native.Nat.{ℕ, ◌+◌, ◌*◌, ◌≤◌, ◌<◌}
use mathlib.Core.Path.{◌≡◌, refl}
use mathlib.Core.Bool.{Bool, true, false}
use mathlib.Core.List.{List, [], ◌∷◌, ◌++◌}
use mathlib.Core.Logic.{⊎_elim}
use native.Mathlib.Omega.{arith}
use Rattle.steps.specs.declared.asked.Step.{Step}
use borrow.Author.Tests.{le-ltb, lt-ltb}
use lib.ListN.{length, take, length-append}
use lib.Seq.{length-sets}
use Rattle.table.specs.declared.table.Table.{Table}
use Rattle.steps.specs.Running.{asked_step}
use Rattle.table.specs.Sound.{table_sound}
use Rattle.table.specs.Way.{at_stations, on_the_way}
use Rattle.table.proofs.Tables.{table_parts}
use Rattle.script.specs.declared.putting.PutLines.{PutLines}
use Rattle.ground.specs.declared.told.Told.{Told}
use Rattle.script.specs.declared.starting.Run.{Run}
use Rattle.script.specs.Decimal.{total_line, way_line}
use Rattle.script.specs.Script.{closing, station_lines}
use Rattle.script.specs.Closing.{closing_room}
use Rattle.script.specs.Reading.{lines_from}
use Rattle.script.specs.Telling.{lines_of_steps}
use Rattle.script.specs.Starting.{answer_bytes, answer_line, PutsAnswer, step_room}
use Rattle.script.specs.Putting.{at_once, PutsLines, run_sound, piece_of}
use Rattle.script.proofs.Lengths.{length_says, length_total, length_way}
use Rattle.script.proofs.Puts.{put_first}
use Rattle.script.proofs.Closings.{length_stations}
use Rattle.ground.proofs.Tests.{below_or_not}
use Rattle.script.proofs.Readings.{lines_few}
use Rattle.script.proofs.Turns.{table_sound_lem, turn_closes, turn_finished, turn_short, turn_steps, turn_unsound}

said_fits : (n : ℕ) (t : Table) (xs : List (Option Step)) → length (lines_of_steps n t xs) ≤ 63 * length xs
unfolding lines_of_steps
said_fits n t [] = omega arith
said_fits n t (x ∷ xs) = let s = asked_step t x in rw length-append (omega (arith, length_says n s.answer s.result, said_fits (n + 1) s.table xs))

closing_fits : (t : Table) → table_sound t ≡ true → length (closing t) ≤ closing_room
closing_fits t e =
    let lines = station_lines t t.count in
    let way = on_the_way t in
    let total = at_stations t + on_the_way t in
    rw (length-append (lines ++ way_line way) (total_line total), length-append lines (way_line way))
    (omega (arith, (table_parts t e).most, length_stations t t.count, length_way way, length_total total))

module _ (script : List ℕ) (run : Run) (room : ℕ) where
  module _ (e : run_sound run ≡ true) (wide : closing_room ≤ room) where
    open_fits : run.finished ≡ false → length (piece_of script run room).bytes ≤ room
    open_fits f =
        let most = at_once room in
        let xs = lines_from most script run.at in
        let few : length xs ≤ most = lines_few most script run.at in
        ⊎_elim
        (λ (h : run.at < length script). rw (turn_steps script run room e wide f h) (omega (arith, said_fits run.number run.table xs)))
        (λ (h : length script ≤ run.at). rw (turn_closes script run room e wide f h) (omega (arith, closing_fits run.table (table_sound_lem run e).0)))
        (below_or_not run.at (length script))

    by_finished : (b : Bool) → run.finished ≡ b → length (piece_of script run room).bytes ≤ room
    by_finished true f = rw (turn_finished script run room e wide f) (omega arith)
    by_finished false f = open_fits f

  by_sound : (b : Bool) → run_sound run ≡ b → length (piece_of script run room).bytes ≤ room
  by_sound true e =
      ⊎_elim
      (λ (h : room < closing_room). rw (turn_short script run room e h) (omega arith))
      (λ (wide : closing_room ≤ room). by_finished e wide run.finished refl)
      (below_or_not room closing_room)
  by_sound false e = rw (turn_unsound script run room e) (omega arith)

  pub turn_fits : length (piece_of script run room).bytes ≤ room
  turn_fits = by_sound (run_sound run) refl

-- the first bytes of a buffer that lines were put into, and of one that the line of a refused
-- script was put into
pub put_lines_first : (script : List ℕ) (run : Run) (out : List ℕ) {r : PutLines} {later : List ℕ} → PutsLines script run out r later → take r.result later ≡ (piece_of script run (length out)).bytes
put_lines_first script run out f =
    let turn = piece_of script run (length out) in
    rw (f.put, f.lent) (put_first out turn.bytes (length turn.bytes) refl (turn_fits script run (length out)))

pub answer_first : (answer : ℕ) (out : List ℕ) {r : Told} {later : List ℕ} → step_room ≤ length out → PutsAnswer answer out r later → take r.result later ≡ answer_line answer
answer_first answer out h p =
    let line = answer_line answer in
    rw (p.put, p.lent, le-ltb (length out) step_room h) (put_first out line (length line) refl (omega (arith, length_says 0 answer 0)))

-- so a result is never more than the buffer's length
answer_by : (answer : ℕ) (out : List ℕ) → length (answer_bytes answer out) ≤ length out
answer_by answer out =
    ⊎_elim
    (λ (h : length out < step_room). rw (lt-ltb (length out) step_room h) (omega arith))
    (λ (h : step_room ≤ length out). rw (le-ltb (length out) step_room h) (omega (arith, length_says 0 answer 0)))
    (below_or_not (length out) step_room)

pub put_lines_fits : {script : List ℕ} {run : Run} {out : List ℕ} {r : PutLines} {later : List ℕ} → PutsLines script run out r later → r.result ≤ length later
put_lines_fits {script} {run} {out} f = rw (f.put, f.lent, length-sets) (turn_fits script run (length out))

pub answer_fits : {answer : ℕ} {out : List ℕ} {r : Told} {later : List ℕ} → PutsAnswer answer out r later → r.result ≤ length later
answer_fits {answer} {out} p = rw (p.put, p.lent, length-sets) (answer_by answer out)
