use Prim.Native.Nat.{◌^◌, ◌<◌}
use mathlib.Core.Path.{refl, ◌∙◌}
use native.Mathlib.Omega.{arith}
use lib.ListN.{length-set}
use Rattle.script.proofs.Decimals.{decimal_one, length_decimal, length_more, digit_turn}
use Rattle.script.proofs.printing.put_decimal.Goals as goal

pub loop-rest-init : goal.loop-rest-init
loop-rest-init c = (omega arith, refl, c.digit_count-count.ensures, refl)

pub overflow_sub-k : goal.overflow_sub-k
overflow_sub-k c = omega (arith, length_more c.loop-rest.rest c.loop-rest-test.true (omega arith))

pub overflow_add-out-in-loop-rest : goal.overflow_add-out-in-loop-rest
overflow_add-out-in-loop-rest c = omega (arith, length_decimal c.loop-rest.rest)

pub bounds-out-at : goal.bounds-out-at
bounds-out-at c = omega (arith, length_decimal c.loop-rest.rest)

pub loop-rest-preserved : goal.loop-rest-preserved
loop-rest-preserved c =
    let at = c.loop-rest in
    let fits : at.rest < 2 ^ 64 = omega arith in (
      omega arith,
      rw length-set at.invariant.1,
      omega (arith, length_more at.rest c.loop-rest-test.true fits),
      digit_turn at.out c.args.at at.k at.rest c.loop-rest-test.true fits at.invariant.2 ∙ at.invariant.3,
    )

pub overflow_add-result : goal.overflow_add-result
overflow_add-result c = omega (arith, length_decimal c.args.n)

pub returns : goal.returns
returns c =
    let at = c.loop-rest in
    (omega arith, rw (decimal_one at.rest c.loop-rest-test.false) at at.invariant.3)
