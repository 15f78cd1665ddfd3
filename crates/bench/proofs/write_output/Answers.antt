use lib.Seq.{length-take-le}
use mathlib.Core.Path.{sym}
use Rattle.script.proofs.Fits.{answer_fits}
use Rattle.bench.proofs.write_output.Goals as goal

pub slice_bounds-write_all-end : goal.slice_bounds-write_all-end
slice_bounds-write_all-end g c = answer_fits c.put_answer-put.ensures

pub slice_bounds-write_all-end-then-started-ne-DONE : goal.slice_bounds-write_all-end-then-started-ne-DONE
slice_bounds-write_all-end-then-started-ne-DONE g c = sym (length-take-le _ _ (answer_fits c.put_answer-put.ensures))
