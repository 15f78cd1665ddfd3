-- A script starts with a sound table and its first step's number, or it is refused and prints one
-- line. Assumes nothing.
use Rattle.std.proofs.Common.{Option, Some, None}
use Prim.Native.Nat.{ℕ, zero, suc, ◌≤◌, ◌<◌}
use mathlib.Core.Path.{◌≡◌, refl}
use mathlib.Core.Bool.{Bool, true, false, cond}
use mathlib.Core.List.{List, [], ◌∷◌}
use native.Mathlib.Omega.{arith}
use borrow.Author.Tests.{ltb-false}
use lib.Dec.{ltb}
use lib.ListN.{length}
use Rattle.ground.specs.Answers.{done, not_sound}
use Rattle.ground.specs.Choice.{if_done}
use Rattle.station.specs.Sound.{count_sound}
use Rattle.table.specs.declared.stepped.Stepped.{Stepped}
use Rattle.table.specs.declared.table.Table.{Table}
use Rattle.table.specs.Sound.{table_sound}
use Rattle.table.specs.Fresh.{fresh_table_of}
use Rattle.table.proofs.FreshSound.{fresh_table_sound}
use Rattle.script.specs.declared.starting.Started.{Started}
use Rattle.script.specs.Words.{past, up_to}
use Rattle.script.specs.Lines.{stations_of}
use Rattle.script.specs.Decimal.{step_line}
use Rattle.script.specs.Script.{most_bytes, opened_by, output_of, started}
use Rattle.script.specs.Reading.{line_at, past_line}
use Rattle.script.specs.Starting.{not_started, started_of, start_for, start_with, answer_line}
use Rattle.script.proofs.Readings.{past_onward, past_within}
use Rattle.script.proofs.Runs.{owed_from, past_left}

-- the number of stations decides whether a script starts
module _ (count at : ℕ) where
  pub bad_count : count_sound count ≡ false → start_for (Some count) at ≡ not_started not_sound
  unfolding fresh_table_of
  bad_count e = rw e

  pub good_count : count_sound count ≡ true → start_for (Some count) at ≡ record { answer = done; result = 0; run = record { table = (fresh_table_of count).table; at = at; number = 1; finished = false } }
  unfolding fresh_table_of
  good_count e = rw e

-- how a script begins: with one line that refuses it, or with a sound table and number 1, at a
-- position behind the first line
pub data Begun (script : List ℕ) (s : Started) : Type 0 where
  refused : (n : ℕ) → s ≡ not_started (suc n) → Begun script s
  going : (t : Table) (at : ℕ) → s ≡ record { answer = 0; result = 0; run = record { table = t; at = at; number = 1; finished = false } }
      → table_sound t ≡ true → 1 ≤ at → at ≤ length script → length script ≤ most_bytes → Begun script s

fresh_by_lem : (count : ℕ) (sound : Bool) → count_sound count ≡ sound → (fresh_table_of count).answer ≡ 0 → table_sound (fresh_table_of count).table ≡ true
unfolding fresh_table_of
fresh_by_lem count true e z = fresh_table_sound count e
fresh_by_lem count false e z = let n : ◌≡◌ {A = ℕ} 1 0 = rw e at z in absurd (omega arith)

module _ (script : List ℕ) (nonempty : 0 < length script) where
  made_begun : (made : Stepped) (n : ℕ) → made.answer ≡ n → (made.answer ≡ 0 → table_sound made.table ≡ true) → length script ≤ most_bytes → Begun script (start_with made (past_line script 0))
  made_begun made zero e s h = going made.table (past_line script 0) (rw e) (s e) (omega (arith, past_onward script 0 nonempty)) (past_within script 0) h
  made_begun made (suc n) e s h = refused n (rw e)

  first_begun : (first : Option ℕ) → length script ≤ most_bytes → Begun script (start_for first (past_line script 0))
  first_begun None h = refused 11 refl
  first_begun (Some count) h = made_begun (fresh_table_of count) (fresh_table_of count).answer refl (fresh_by_lem count (count_sound count) refl) h

  size_begun : (long : Bool) → ltb most_bytes (length script) ≡ long → (first : Option ℕ) → Begun script (cond long (not_started 13) (start_for first (past_line script 0)))
  size_begun true e first = refused 12 refl
  size_begun false e first = first_begun first (ltb-false most_bytes (length script) e)

pub begun : (script : List ℕ) → Begun script (started_of script)
unfolding started_of stations_of
begun [] = refused 11 refl
begun (b ∷ bs) = let script = b ∷ bs in size_begun script (omega arith) (ltb most_bytes (length script)) refl (stations_of (line_at script 0))

-- a script prints what its start says
abbrev pub printed : List ℕ → Started → List ℕ
printed script s = if_done s.answer (owed_from script s.run.table s.run.number s.run.at) (answer_line s.answer)

made_prints : (script : List ℕ) (made : Stepped) (answer : ℕ) → made.answer ≡ answer → let s = start_with made (past_line script 0) in started made (past 10 script) ≡ printed script s
unfolding owed_from
made_prints script made zero e = rw (e, past_left script 0)
made_prints script made (suc n) e = rw e

first_prints : (script : List ℕ) (first : Option ℕ) → let s = start_for first (past_line script 0) in opened_by first (past 10 script) ≡ printed script s
first_prints script None = refl
first_prints script (Some count) = made_prints script (fresh_table_of count) (fresh_table_of count).answer refl

size_prints : (long : Bool) (script : List ℕ) (first : Option ℕ) → let s = cond long (not_started 13) (start_for first (past_line script 0)) in cond long (step_line 0 13 0) (opened_by first (past 10 script)) ≡ printed script s
size_prints true script first = refl
size_prints false script first = first_prints script first

pub start_prints : (script : List ℕ) → let s = started_of script in output_of script ≡ printed script s
unfolding output_of started_of
start_prints script = size_prints (ltb most_bytes (length script)) script (stations_of (up_to 10 script))
