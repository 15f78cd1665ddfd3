use Rattle.std.proofs.Common.{rules}
use native.Mathlib.Omega.{arith}
use mathlib.Core.Path.{refl, ◌∙◌}
use lib.ListN.{length-append}
use Rattle.table.proofs.Tables.{table_parts}
use Rattle.script.proofs.Lengths.{length_way}
use Rattle.script.proofs.Puts.{fresh_room, puts_both, room_left, whole_page}
use Rattle.script.proofs.Closings.{at_stations_small, length_stations, on_the_way_small, sum_told}
use Rattle.script.proofs.closing.put_closing.Goals as goal

pub put_stations-requires : goal.put_stations-requires
put_stations-requires c = ((table_parts c.args.t c.requires.0).most, fresh_room c.new-page.result 2048 c.new-page.ensures.start c.new-page.ensures.lent c.requires.1)

pub way-requires : goal.way-requires
way-requires c =
    let t = c.args.t in
    let room = fresh_room c.new-page.result 2048 c.new-page.ensures.start c.new-page.ensures.lent c.requires.1 in
    room_left 2048 64 room c.put_stations.ensures (omega (arith, length_stations t t.count, (table_parts t c.requires.0).most))

pub overflow_add-held : goal.overflow_add-held
overflow_add-held c =
    let t = c.args.t in
    let sound = c.requires.0 in
    omega (arith, at_stations_small t sound, on_the_way_small t sound, sum_told t _ c.on_the_way-way.ensures sound, sum_told t _ c.at_stations-held.ensures sound)

pub total-requires : goal.total-requires
total-requires c =
    let t = c.args.t in
    let room = fresh_room c.new-page.result 2048 c.new-page.ensures.start c.new-page.ensures.lent c.requires.1 in
    room_left 2048 64 room (puts_both c.put_stations.ensures c.way.ensures refl)
    (rw length-append (omega (arith, length_stations t t.count, length_way c.on_the_way-way.result.result, (table_parts t c.requires.0).most)))

pub returns : goal.returns
returns c =
    let t = c.args.t in
    let page = c.new-page.ensures in
    let put = puts_both (puts_both c.put_stations.ensures c.way.ensures refl) c.total.ensures refl in
    let whole = whole_page page.start page.lent put in
    let same = put.same ∙ page.same in
    rw (← sum_told t _ c.on_the_way-way.ensures c.requires.0, ← sum_told t _ c.at_stations-held.ensures c.requires.0) (whole.0, search rules)
