use Rattle.record.proofs.Fronts.{ends_taken}
use Rattle.record.proofs.front.ends_of.Goals as goal

pub returns : goal.returns
returns c =
    ends_taken _ _ c.in_ok-second.ensures _ c.number_at-from.ensures.number c.if-from-gt15.false _ c.in_ok-at.ensures _ c.number_at-to.ensures.number c.if-to-gt15.false c.if-from-to.false
