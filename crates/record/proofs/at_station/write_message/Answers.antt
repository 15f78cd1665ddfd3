use mathlib.Core.Path.{ap, sym, ◌∙◌}
use lib.ListN.{length}
use Rattle.station.specs.declared.message.Shown.{Shown}
use Rattle.station.proofs.Answering.{show_tells}
use Rattle.record.proofs.Showing.{shows, writes_nothing, writes_shown}
use Rattle.record.proofs.at_station.write_message.Goals as goal

pub returns-then-shown-ne-DONE : goal.returns-then-shown-ne-DONE
returns-then-shown-ne-DONE c =
    let a = c.args in
    let shown = c.message_for-shown in
    let n = ap (λ (x : Shown). x.answer) shown.ensures ∙ show_tells a.s a.to in
    rw n (writes_nothing a.s a.to a.buffer.now (λ e. c.if-shown-ne-DONE.true (n ∙ e)))

pub returns : goal.returns
returns c =
    let a = c.args in
    let shown = c.message_for-shown in
    let n = sym (ap (λ (x : Shown). x.answer) shown.ensures ∙ show_tells a.s a.to) ∙ c.if-shown-ne-DONE.false in
    let m = ap (λ (x : Shown). x.message) shown.ensures ∙ shows a.s a.to n in
    rw (← writes_shown a.s a.to (length a.buffer.now) n, ← m) c.write.ensures
