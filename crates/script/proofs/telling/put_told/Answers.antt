use Rattle.std.proofs.Common.{rules, ◌≡◌, ℕ}
use native.Mathlib.Omega.{arith}
use Prim.Native.Nat.{◌*◌}
use mathlib.Core.Path.{sym, ap, ◌∙◌}
use Rattle.script.specs.Telling.{lines_of_told}
use Rattle.script.proofs.Tells.{said_more, said_none, said_short}
use Rattle.script.proofs.Puts.{fresh_room, puts_both, puts_none, puts_to, room_left, whole_page}
use Rattle.script.proofs.telling.put_told.Goals as goal

pub loop-k-init : goal.loop-k-init
loop-k-init c = let a = c.args in puts_to (sym (said_none a.first a.told.now)) (puts_none c.new-page.result)

pub says-requires : goal.says-requires
says-requires c =
    let a = c.args in
    let at = c.loop-k in
    let room = fresh_room c.new-page.result (64 * a.steps) c.new-page.ensures.start c.new-page.ensures.lent c.requires.1 in
    room_left (64 * a.steps) 64 room at.invariant (omega (arith, said_short at.k a.first a.told.now))

pub loop-k-preserved : goal.loop-k-preserved
loop-k-preserved c = let a = c.args in let at = c.loop-k in puts_both at.invariant c.says.ensures (sym (said_more at.k a.first a.told.now))

pub returns : goal.returns
returns c =
    let a = c.args in
    let at = c.loop-k in
    let page = c.new-page.ensures in
    let all : at.k ≡ a.steps = omega arith in
    let put = puts_to (ap (λ (n : ℕ). lines_of_told n a.first a.told.now) all) at.invariant in
    let whole = whole_page page.start page.lent put in
    let same = put.same ∙ page.same in
    (whole.0, search rules)
