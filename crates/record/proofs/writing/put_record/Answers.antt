use mathlib.Core.Path.{refl, sym}
use Rattle.record.proofs.Lengths.{as_put}
use Rattle.record.proofs.Sheets.{puts_both, puts_none, room_first, room_left}
use Rattle.record.proofs.writing.put_record.Goals as goal

pub field-requires-2 : goal.field-requires-2
field-requires-2 c = room_first _ (room_left (rw as_put at c.requires) c.field.ensures)

pub field-requires-3 : goal.field-requires-3
field-requires-3 c = room_first _ (room_left (room_left (rw as_put at c.requires) c.field.ensures) c.field-2.ensures)

pub clocks_field-requires : goal.clocks_field-requires
clocks_field-requires c =
    let second = room_left (room_left (rw as_put at c.requires) c.field.ensures) c.field-2.ensures in
    (refl, room_first _ (room_left second c.field-3.ensures))

pub held_field-requires : goal.held_field-requires
held_field-requires c =
    let second = room_left (room_left (rw as_put at c.requires) c.field.ensures) c.field-2.ensures in
    (refl, room_first _ (room_left (room_left second c.field-3.ensures) c.clocks_field.ensures))

pub held_field-requires-2 : goal.held_field-requires-2
held_field-requires-2 c =
    let second = room_left (room_left (rw as_put at c.requires) c.field.ensures) c.field-2.ensures in
    let fourth = room_left (room_left second c.field-3.ensures) c.clocks_field.ensures in
    (refl, room_first _ (room_left fourth c.held_field.ensures))

pub returns : goal.returns
returns c =
    let token = puts_both c.held_field-2.ensures (puts_none c.held_field-2.new.self) refl in
    let held = puts_both c.held_field.ensures token refl in
    let later = puts_both c.field-3.ensures (puts_both c.clocks_field.ensures held refl) refl in
    puts_both c.field.ensures (puts_both c.field-2.ensures later refl) (sym (as_put c.args.m))
