use native.Mathlib.Omega.{arith}
use mathlib.Core.Path.{refl, ap, ◌∙◌}
use mathlib.Core.Logic.{inl, inr}
use Rattle.script.specs.Lines.{line_of}
use Rattle.script.proofs.Readings.{all_read, line_read}
use Rattle.script.proofs.reading.read_lines.Goals as goal

pub returns-then-script-at : goal.returns-then-script-at
returns-then-script-at c =
    let a = c.args in
    let at = c.loop-lines in
    all_read a.script.now a.start a.most a.codes.now at.codes at.at at.lines at.invariant at.lines refl (inr c.if-script-at.true)

pub loop-lines-preserved : goal.loop-lines-preserved
loop-lines-preserved c =
    let a = c.args in
    let at = c.loop-lines in
    let line = c.line_of.ensures ∙ ap line_of c.line_at.ensures in
    rw c.past_line-at.ensures (line_read a.script.now a.start a.most a.codes.now at.codes at.at at.lines at.invariant _ c.loop-lines-test.true (omega arith) line c.put_asked.ensures)

pub returns : goal.returns
returns c =
    let a = c.args in
    let at = c.loop-lines in
    all_read a.script.now a.start a.most a.codes.now at.codes at.at at.lines at.invariant a.most (omega (arith, at.invariant.few)) (inl (omega arith))
