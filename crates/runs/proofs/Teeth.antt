-- Demand 3 shuts out builds that have one thing wrong: for each there are steps after which one of
-- its statements is false. Assumes nothing.
use mathlib.Core.Path.{refl}
use mathlib.Core.Bool.{false≢true}
use borrow.Author.Tests.{eqb-false}
use Rattle.handshake.specs.History.{transfer}
use Rattle.table.specs.Fresh.{fresh_table_of}
use Rattle.runs.specs.Runs.{amounting}
use Rattle.runs.specs.Demand3.{Demand3}
use Rattle.runs.specs.Broken.{one_clock, old_token, slot_unseen, slot_again, slot_first, token_comes, clock_stands, token_of_nothing, clock_stands_unasked, nothing_again, draw_tells_more, part_drawn, refused_draw_takes, overdrawn}
use Rattle.runs.proofs.WrittenOut.{written_out}

-- 1. 10 were added and 15 are there: the old token was filled twice
pub one_clock_fails : Demand3 one_clock (fresh_table_of 2).table → ⊥
unfolding written_out
one_clock_fails d = eqb-false 15 10 refl (d.accounted old_token).passes

-- 2. 10 were added and 5 are there: the token was dropped before it landed
pub slot_unseen_fails : Demand3 slot_unseen (fresh_table_of 2).table → ⊥
unfolding written_out
slot_unseen_fails d = eqb-false 5 10 refl (d.accounted slot_again).passes

-- 3. 10 were added and 5 are there: the slot went, and its token can never land
pub slot_first_fails : Demand3 slot_first (fresh_table_of 2).table → ⊥
unfolding written_out
slot_first_fails d = eqb-false 5 10 refl (d.accounted token_comes).passes

-- 4. the table is not sound: the token's source clock is not below its maker's
pub clock_stands_fails : Demand3 clock_stands (fresh_table_of 2).table → ⊥
unfolding written_out
clock_stands_fails d = false≢true (d.accounted token_of_nothing).sound

-- 4. and where that is not asked, departures 0 and 1 have the same stations and clocks
pub clock_stands_unasked_fails : Demand3 clock_stands_unasked (fresh_table_of 2).table → ⊥
unfolding written_out
clock_stands_unasked_fails d =
    let x = transfer 0 1 (amounting 0 0 0) in
    eqb-false 0 1 refl
    ((d.accounted nothing_again).pairing.one_departure 0 1 x x refl refl (record { maker = refl; receiver = refl; source = refl; destination = refl }))

-- 5. 10 were added; 7 are there, and 10 are said to be drawn
pub draw_tells_more_fails : Demand3 draw_tells_more (fresh_table_of 2).table → ⊥
unfolding written_out
draw_tells_more_fails d = eqb-false 17 10 refl (d.accounted part_drawn).passes

-- 6. 10 were added; none is there, and none is said to be drawn
pub refused_draw_takes_fails : Demand3 refused_draw_takes (fresh_table_of 2).table → ⊥
unfolding written_out
refused_draw_takes_fails d = eqb-false 0 10 refl (d.accounted overdrawn).passes
