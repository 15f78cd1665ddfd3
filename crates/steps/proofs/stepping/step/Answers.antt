use Rattle.steps.proofs.Ran.{numbered, one_refused, one_done}
use Rattle.steps.proofs.stepping.step.Goals as goal

pub returns-then-ran-ne-DONE : goal.returns-then-ran-ne-DONE
returns-then-ran-ne-DONE c = rw c.no_report.ensures (one_refused c.args.t c.args.step (numbered c.args.step c.numbers_for-codes.ensures c.run-ran.ensures) c.if-ran-ne-DONE.true)

pub returns : goal.returns
returns c = rw c.report_of.ensures (one_done c.args.t c.args.step (numbered c.args.step c.numbers_for-codes.ensures c.run-ran.ensures) c.if-ran-ne-DONE.false)
