use Rattle.script.proofs.Readings.{past_is}
use Rattle.script.proofs.reading.past_line.Goals as goal

pub returns : goal.returns
returns c = rw (c.cut_at.ensures.behind, c.left_from.ensures) (past_is c.args.script.now c.args.at)
