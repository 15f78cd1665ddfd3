use Rattle.std.proofs.Common.{rules}
use mathlib.Core.Path.{◌∙◌}
use borrow.Author.Tests.{lt-ltb, le-ltb}
use lib.ListN.{length}
use Rattle.script.specs.Starting.{step_room}
use Rattle.script.proofs.Puts.{whole_page}
use Rattle.script.proofs.starting.put_answer.Goals as goal

pub returns-then-out-lt-STEP_ROOM : goal.returns-then-out-lt-STEP_ROOM
returns-then-out-lt-STEP_ROOM c = let e = lt-ltb (length c.args.out.now) step_room c.if-out-lt-STEP_ROOM.true in record { put = rw (e, c.number.ensures); lent = rw e }

pub returns : goal.returns
returns c =
    let e = le-ltb (length c.args.out.now) step_room c.if-out-lt-STEP_ROOM.false in
    let page = c.new-page.ensures in
    let put = rw c.from.ensures at c.says.ensures in
    let whole = whole_page page.start page.lent put in
    let same = put.same ∙ page.same in
    record { put = rw (e, whole.0); lent = rw e (search rules) }
