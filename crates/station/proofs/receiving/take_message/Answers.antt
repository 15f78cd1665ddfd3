use Rattle.std.proofs.Common.{ap, sym, ◌∙◌, arith}
use Rattle.rules.specs.declared.side.Side.{Side}
use Rattle.rules.specs.declared.taking.Taken.{Taken}
use Rattle.rules.specs.Taking.{taken_of}
use Rattle.station.proofs.Answering.{met}
use Rattle.station.proofs.ByRules.{receive_refused, receive_done}
use Rattle.station.proofs.Parts.{message_parts}
use Rattle.station.proofs.receiving.take_message.Goals as goal

pub side_for-requires : goal.side_for-requires
side_for-requires c =
    let m = message_parts c.args.m (met c.args.s c.args.m c.requires).message in
    omega (arith, m.from)

pub returns-then-taken-ne-DONE : goal.returns-then-taken-ne-DONE
returns-then-taken-ne-DONE c =
    let a = c.args in
    let t = c.take-taken.ensures ∙ ap (λ (x : Side). taken_of x a.m) c.side_for.ensures in
    c.refuse.ensures ∙ receive_refused a.s a.m c.requires (λ e. c.if-taken-ne-DONE.true (ap (λ (x : Taken). x.answer) t ∙ e))

pub put_side-requires : goal.put_side-requires
put_side-requires c =
    let m = message_parts c.args.m (met c.args.s c.args.m c.requires).message in
    omega (arith, m.from)

pub returns : goal.returns
returns c =
    let a = c.args in
    let t = c.take-taken.ensures ∙ ap (λ (x : Side). taken_of x a.m) c.side_for.ensures in
    rw (c.put_side.ensures, t)
    (receive_done a.s a.m c.requires (ap (λ (x : Taken). x.answer) (sym t) ∙ c.if-taken-ne-DONE.false))
