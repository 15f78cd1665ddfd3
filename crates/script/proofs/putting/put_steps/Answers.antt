use native.Mathlib.Omega.{arith}
use mathlib.Core.Path.{sym, ap}
use lib.ListN.{length}
use lib.Seq.{length-sets, length-take-le}
use Rattle.script.proofs.Turns.{few_lines, table_sound_lem, told_length, turn_put}
use Rattle.script.proofs.putting.put_steps.Goals as goal

pub read_lines-read-requires : goal.read_lines-read-requires
read_lines-read-requires c = omega (arith, c.at_once.ensures, c.zeros-codes.ensures)

pub overflow_mul-codes : goal.overflow_mul-codes
overflow_mul-codes c = omega (arith, (few_lines (length c.args.out.now) c.args.script.now c.args.run.at c.at_once.ensures c.read_lines-read.ensures.0).0)

pub slice_bounds-codes-end : goal.slice_bounds-codes-end
slice_bounds-codes-end c = omega (arith, (few_lines (length c.args.out.now) c.args.script.now c.args.run.at c.at_once.ensures c.read_lines-read.ensures.0).0)

pub slice_bounds-run-end : goal.slice_bounds-run-end
slice_bounds-run-end c = sym (length-take-le _ _ (omega (arith, (few_lines (length c.args.out.now) c.args.script.now c.args.run.at c.at_once.ensures c.read_lines-read.ensures.0).0, c.zeros-codes.ensures, simp length-sets at (ap length c.read_lines-read.ensures.1))))

pub put_told-size-requires : goal.put_told-size-requires
put_told-size-requires c =
    let few = few_lines (length c.args.out.now) c.args.script.now c.args.run.at c.at_once.ensures c.read_lines-read.ensures.0 in
    (omega (arith, few.0, told_length c.zeros-told.ensures c.run-ran.ensures), omega (arith, few.1), omega (arith, few.0, (table_sound_lem c.args.run c.requires).1))

pub overflow_add-result : goal.overflow_add-result
overflow_add-result c = omega (arith, (few_lines (length c.args.out.now) c.args.script.now c.args.run.at c.at_once.ensures c.read_lines-read.ensures.0).0, (table_sound_lem c.args.run c.requires).1)

pub returns : goal.returns
returns c =
    let a = c.args in
    turn_put a.script.now a.run c.requires c.zeros-codes.result c.zeros-told.result a.out.now c.at_once.ensures c.zeros-codes.ensures c.zeros-told.ensures c.read_lines-read.ensures c.run-ran.ensures c.put_told-size.ensures
