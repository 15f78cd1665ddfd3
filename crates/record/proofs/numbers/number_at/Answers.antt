use mathlib.Core.Path.{sym}
use Rattle.record.proofs.Bytes.{in_parts}
use Rattle.record.proofs.numbers.number_at.Goals as goal

pub returns-then-size-eq8-clause-number : goal.returns-then-size-eq8-clause-number
returns-then-size-eq8-clause-number c =
    let a = c.args in
    let high = c.bytes_at.ensures in
    let low = c.bytes_at-then-size-eq8.ensures in
    rw (c.if-size-eq8.true, high.number, low.number) (sym (in_parts a.bytes.now a.at 4 4))
