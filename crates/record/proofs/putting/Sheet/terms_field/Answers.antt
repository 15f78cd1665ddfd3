use mathlib.Core.Path.{refl}
use mathlib.Core.List.{[], ◌++◌, append_assoc}
use Rattle.record.specs.Numbers.{big}
use Rattle.record.proofs.Sheets.{puts_both, puts_none, room_first, room_left}
use Rattle.record.proofs.putting.Sheet.terms_field.Goals as goal

pub clocks-requires : goal.clocks-requires
clocks-requires c =
    let t = c.args.terms in
    let body = room_left c.requires.1 (rw c.requires.0 at c.head.ensures) in
    room_first _ (rw (← append_assoc (big 4 t.source.0) (big 4 t.destination.0) (big 8 t.quantity ++ [])) at body)

pub number-requires : goal.number-requires
number-requires c =
    let t = c.args.terms in
    let body = room_left c.requires.1 (rw c.requires.0 at c.head.ensures) in
    room_first _ (room_left (rw (← append_assoc (big 4 t.source.0) (big 4 t.destination.0) (big 8 t.quantity ++ [])) at body) c.clocks.ensures)

pub returns : goal.returns
returns c =
    let t = c.args.terms in
    let quantity = puts_both c.number.ensures (puts_none c.number.new.self) refl in
    let body = puts_both c.clocks.ensures quantity (append_assoc (big 4 t.source.0) (big 4 t.destination.0) (big 8 t.quantity ++ [])) in
    puts_both (rw c.requires.0 at c.head.ensures) body refl
