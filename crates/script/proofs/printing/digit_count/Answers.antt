use mathlib.Core.Path.{ap}
use native.Mathlib.Omega.{arith}
use lib.ListN.{length}
use Rattle.script.proofs.Decimals.{decimal_one, length_decimal, length_more}
use Rattle.script.proofs.printing.digit_count.Goals as goal

pub overflow_add-count : goal.overflow_add-count
overflow_add-count c = omega (arith, length_decimal c.args.n)

pub loop-rest-preserved : goal.loop-rest-preserved
loop-rest-preserved c = omega (arith, length_more c.loop-rest.rest c.loop-rest-test.true (omega arith))

pub returns : goal.returns
returns c = omega (arith, ap length (decimal_one c.loop-rest.rest c.loop-rest-test.false))
