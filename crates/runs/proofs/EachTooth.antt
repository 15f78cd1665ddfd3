-- Each clause of demand 3 can be false alone: for each a build and steps for which it fails, and
-- every other clause holds. So none of them follows from the others, and none can be left out.
-- Assumes nothing.
use mathlib.Core.Path.{refl}
use mathlib.Core.Bool.{false≢true}
use mathlib.Core.List.{List, ◌++◌}
use native.Mathlib.Omega.{arith}
use borrow.Author.Tests.{eqb-false}
use Rattle.handshake.specs.History.{transfer}
use Rattle.table.specs.Fresh.{fresh_table_of}
use Rattle.steps.specs.declared.asked.Step.{Step}
use Rattle.runs.specs.Runs.{Build, amounting}
use Rattle.runs.specs.Broken.{draw_tells_more, part_drawn, slot_again, clock_stands, token_of_nothing}
use Rattle.runs.specs.BrokenAlone.{told_late, lands_first, told_again, slot_stays, nothing_twice, told_never, token_made, never_sound, one_add, slot_gone, slot_dropped, comes_again}
use Rattle.runs.specs.Clauses.{Clause, passes, departed_before, one_departure, one_arrival, way, sound, answers, stale, FailsAlone}
use Rattle.runs.specs.Worked.{five}
use Rattle.runs.proofs.Alone.{alone}
use Rattle.runs.proofs.WrittenOut.{written_out}

-- 10 were added; 7 are there, and 10 are said to be drawn
pub passes_alone : FailsAlone passes draw_tells_more (fresh_table_of 2).table part_drawn
unfolding written_out
passes_alone = alone refl (λ h. eqb-false 17 10 refl h)

-- 5 passes arrive, and only then are said to depart
pub departed_before_alone : FailsAlone departed_before told_late (fresh_table_of 2).table lands_first
unfolding written_out
departed_before_alone = alone refl (λ h. let w = h 0 five refl in omega (arith, w.1))

-- departures 0 and 1 have the same stations and clocks
pub one_departure_alone : FailsAlone one_departure told_again (fresh_table_of 2).table slot_again
unfolding written_out
one_departure_alone =
    alone refl
    (λ h. eqb-false 0 1 refl (h 0 1 five (transfer 0 1 (amounting 0 0 0)) refl refl (record { maker = refl; receiver = refl; source = refl; destination = refl })))

-- entries 1 and 2 are arrivals of one token
pub one_arrival_alone : FailsAlone one_arrival slot_stays (fresh_table_of 2).table nothing_twice
unfolding written_out
one_arrival_alone =
    alone refl
    (λ h. let x = transfer 0 1 (amounting 0 0 0) in eqb-false 1 2 refl (h 1 2 x x refl refl (record { maker = refl; receiver = refl; source = refl; destination = refl })))

-- 5 are on the way, and none departed
pub way_alone : FailsAlone way told_never (fresh_table_of 2).table token_made
unfolding written_out
way_alone = alone refl (λ h. eqb-false 5 0 refl h)

-- the token's source clock is its maker's
pub sound_alone : FailsAlone sound clock_stands (fresh_table_of 2).table token_of_nothing
unfolding written_out
sound_alone = alone refl false≢true

-- the first step is answered 1
pub answers_alone : FailsAlone answers never_sound (fresh_table_of 2).table one_add
unfolding written_out
answers_alone = alone refl (λ h. (h 0 _ refl).0 refl)

-- the token that station 0 stores for station 1 is not on the way, and lands
pub stale_alone : FailsAlone stale slot_gone (fresh_table_of 2).table (slot_dropped ++ comes_again)
unfolding written_out
stale_alone =
    alone refl
    (λ h. h slot_dropped comes_again refl 0 1 (record { source = record { 0 = 0 }; destination = record { 0 = 0 }; quantity = 5 }) refl refl 0 five refl (record { maker = refl; receiver = refl; source = refl; destination = refl }))

-- there is one for every clause
pub each_counts : (clause : Clause) → (build : Build) × (steps : List Step) × FailsAlone clause build (fresh_table_of 2).table steps
each_counts passes = (draw_tells_more, part_drawn, passes_alone)
each_counts departed_before = (told_late, lands_first, departed_before_alone)
each_counts one_departure = (told_again, slot_again, one_departure_alone)
each_counts one_arrival = (slot_stays, nothing_twice, one_arrival_alone)
each_counts way = (told_never, token_made, way_alone)
each_counts sound = (clock_stands, token_of_nothing, sound_alone)
each_counts answers = (never_sound, one_add, answers_alone)
each_counts stale = (slot_gone, slot_dropped ++ comes_again, stale_alone)
