-- A turn that puts the lines of steps: lines to numbers, numbers to what was told, and that to
-- lines. Assumes nothing.
use Rattle.std.proofs.Common.{Option}
use Prim.Native.Nat.{ℕ, ◌+◌, ◌*◌, ◌≤◌, ◌<◌}
use mathlib.Core.Path.{◌≡◌, refl, sym, ap, ◌∙◌}
use mathlib.Core.Bool.{Bool, true, false, cond, and-eq-true_iff}
use mathlib.Core.List.{List, [], ◌∷◌, ◌++◌}
use native.Mathlib.Omega.{arith}
use Rattle.steps.specs.declared.asked.Step.{Step}
use borrow.Author.Tests.{leb-true, le-ltb, lt-ltb}
use lib.Dec.{leb}
use lib.ListN.{length, take, drop}
use lib.Seq.{sets, length-sets}
use Rattle.ground.proofs.Stores.{in_front_lem}
use Rattle.steps.specs.declared.running.Ran.{Ran}
use Rattle.table.specs.declared.table.Table.{Table}
use Rattle.table.specs.Sound.{table_sound}
use Rattle.steps.specs.Running.{asked_in, asked_of, asked_step, left_by, ran_of, Runs, steps_in, all_told, told_in_run}
use Rattle.script.specs.declared.reading.Read.{Read}
use Rattle.script.specs.declared.starting.Run.{Run}
use Rattle.script.specs.declared.putting.PutLines.{PutLines}
use Rattle.script.specs.Script.{most_bytes}
use Rattle.script.specs.Closing.{closing_room}
use Rattle.script.specs.Reading.{lines_from, numbers_for_all, past_lines, lines_read}
use Rattle.script.specs.Telling.{lines_of_steps, lines_of_told}
use Rattle.script.specs.Starting.{step_room}
use Rattle.script.specs.Putting.{at_once, closing_piece, piece_told, PutsLines, most_at_once, run_sound, steps_piece, empty_piece, OutputPiece, piece_of}
use Rattle.script.proofs.Readings.{length_numbers, lines_few, numbers_asked}
use Rattle.script.proofs.Puts.{put_first}
use Rattle.script.proofs.Tells.{said_told}

pub table_sound_lem : (run : Run) → run_sound run ≡ true → (table_sound run.table ≡ true) × (run.number ≤ most_bytes)
table_sound_lem run e =
    let both = (and-eq-true_iff (table_sound run.table) (leb run.number most_bytes)).0 e in
    (both.0, leb-true run.number most_bytes both.1)

length_told : (t : Table) (xs : List (Option Step)) → length (all_told t xs) ≡ 5 * length xs
unfolding all_told
length_told t [] = refl
length_told t (x ∷ xs) = omega (arith, length_told (asked_step t x).table xs)

-- a table that is sound runs the steps that are lent
module _ (t : Table) (e : table_sound t ≡ true) (xs : List (Option Step)) (told : List ℕ) (room : 5 * length xs ≤ length told) where
  all_steps : steps_in (numbers_for_all xs) told ≡ length xs
  all_steps = omega (arith, length_numbers xs)

  all_asked : asked_in (steps_in (numbers_for_all xs) told) (numbers_for_all xs) ≡ xs
  all_asked = ap (λ (n : ℕ). asked_in n (numbers_for_all xs)) all_steps ∙ numbers_asked xs

  steps_left : (ran_of t (numbers_for_all xs) told).table ≡ left_by t xs
  unfolding ran_of
  steps_left = rw (e, all_asked)

  steps_told : told_in_run t (numbers_for_all xs) told ≡ all_told t xs ++ drop (length (all_told t xs)) told
  unfolding told_in_run
  steps_told = rw (e, all_asked) (in_front_lem told (all_told t xs) (omega (arith, length_told t xs)))

-- the lines that were read fit the numbers lent for them and the room of the buffer
pub few_lines : (room : ℕ) (script : List ℕ) (at : ℕ) {most : ℕ} {read : Read} → most ≡ at_once room → read ≡ lines_read most script at → (read.lines ≤ most_at_once) × (step_room * read.lines ≤ room)
few_lines room script at {most} {read} e f =
    let count : read.lines ≡ length (lines_from most script at) = ap (λ (r : Read). r.lines) f in
    (omega (arith, lines_few most script at), omega (arith, lines_few most script at))

told_kept : (sound : Bool) (told xs : List ℕ) → length (cond sound (sets told 0 xs) told) ≡ length told
told_kept true told xs = length-sets told 0 xs
told_kept false told xs = refl

pub told_length : {n : ℕ} {t : Table} {codes told₀ : List ℕ} {ran : Ran} {told : List ℕ} → n ≡ length told₀ → Runs t codes told₀ ran told → length told ≡ n
unfolding told_in_run
told_length {n} {t} {codes} {told₀} e runs = ap length runs.lent ∙ told_kept (table_sound t) told₀ (all_told t (asked_of codes told₀)) ∙ sym e

module _ (script : List ℕ) (run : Run) (sound : run_sound run ≡ true) where
  steps_put : {most : ℕ} {read : Read} {codes : List ℕ} {ran : Ran} {told : List ℕ} {size : ℕ} {out' : List ℕ} (codes₀ told₀ out : List ℕ) → most ≤ most_at_once → 3072 ≡ length codes₀ → 5120 ≡ length told₀
      → (read ≡ lines_read most script run.at) × (codes ≡ sets codes₀ 0 (numbers_for_all (lines_from most script run.at)))
      → Runs run.table (take (3 * read.lines) codes) told₀ ran told
      → (size ≡ length (lines_of_told read.lines run.number told)) × (out' ≡ sets out 0 (lines_of_told read.lines run.number told))
      → (record { answer = 0; result = size; run = record { table = ran.table; at = read.at; number = run.number + read.lines; finished = false } } ≡ piece_told (steps_piece script run most)) × (out' ≡ sets out 0 (steps_piece script run most).bytes)
  steps_put {most} {read} {codes} {ran} {told} codes₀ told₀ out few cl tl r runs put =
      let t = run.table in
      let xs = lines_from most script run.at in
      let s = (table_sound_lem run sound).0 in
      let count : read.lines ≡ length xs = ap (λ (r : Read). r.lines) r.0 in
      let past : read.at ≡ past_lines most script run.at = ap (λ (r : Read). r.at) r.0 in
      let small : length xs ≤ most = lines_few most script run.at in
      let first : take (3 * read.lines) codes ≡ numbers_for_all xs = rw r.1 (put_first codes₀ (numbers_for_all xs) (3 * read.lines) (omega (arith, length_numbers xs)) (omega (arith, length_numbers xs))) in
      let left : ran.table ≡ left_by t xs = ap (λ (r : Ran). r.table) runs.ran ∙ rw first (steps_left t s xs told₀ (omega arith)) in
      let tells : told ≡ all_told t xs ++ drop (length (all_told t xs)) told₀ = runs.lent ∙ rw first (steps_told t s xs told₀ (omega arith)) in
      let lines : lines_of_told read.lines run.number told ≡ lines_of_steps run.number t xs = rw (count, tells) (said_told xs run.number t (drop (length (all_told t xs)) told₀)) in
      (rw (put.0, lines, left, past, count), put.1 ∙ rw lines)

  pub turn_put : {most : ℕ} {read : Read} {codes : List ℕ} {ran : Ran} {told : List ℕ} {size : ℕ} {out' : List ℕ} (codes₀ told₀ out : List ℕ) → most ≡ at_once (length out) → 3072 ≡ length codes₀ → 5120 ≡ length told₀
      → (read ≡ lines_read most script run.at) × (codes ≡ sets codes₀ 0 (numbers_for_all (lines_from most script run.at)))
      → Runs run.table (take (3 * read.lines) codes) told₀ ran told
      → (size ≡ length (lines_of_told read.lines run.number told)) × (out' ≡ sets out 0 (lines_of_told read.lines run.number told))
      → (record { answer = 0; result = size; run = record { table = ran.table; at = read.at; number = run.number + read.lines; finished = false } } ≡ piece_told (steps_piece script run (at_once (length out)))) × (out' ≡ sets out 0 (steps_piece script run (at_once (length out))).bytes)
  turn_put codes₀ told₀ out e cl tl r runs put = rw (← e) (steps_put codes₀ told₀ out (omega arith) cl tl r runs put)

-- which turn it is
module _ (script : List ℕ) (run : Run) (room : ℕ) where
  pub turn_unsound : run_sound run ≡ false → piece_of script run room ≡ empty_piece 1 run
  unfolding piece_of
  turn_unsound e = rw e

  module _ (e : run_sound run ≡ true) where
    pub turn_short : room < closing_room → piece_of script run room ≡ empty_piece 14 run
    unfolding piece_of
    turn_short h = rw (e, lt-ltb room closing_room h)

    module _ (wide : closing_room ≤ room) where
      pub turn_finished : run.finished ≡ true → piece_of script run room ≡ empty_piece 0 run
      unfolding piece_of
      turn_finished f = rw (e, le-ltb room closing_room wide, f)

      module _ (f : run.finished ≡ false) where
        pub turn_steps : run.at < length script → piece_of script run room ≡ steps_piece script run (at_once room)
        unfolding piece_of
        turn_steps h = rw (e, le-ltb room closing_room wide, f, lt-ltb run.at (length script) h)

        pub turn_closes : length script ≤ run.at → piece_of script run room ≡ closing_piece run
        unfolding piece_of
        turn_closes h = rw (e, le-ltb room closing_room wide, f, le-ltb run.at (length script) h)

pub puts_lines_by : (script : List ℕ) (run : Run) (out : List ℕ) {turn : OutputPiece} {r : PutLines} {later : List ℕ} → piece_of script run (length out) ≡ turn → r ≡ piece_told turn → later ≡ sets out 0 turn.bytes → PutsLines script run out r later
puts_lines_by script run out e f g = record { put = rw e f; lent = rw e g }
