use lib.Seq.{length-take-le}
use mathlib.Core.Path.{sym}
use Rattle.script.proofs.Fits.{put_lines_fits}
use Rattle.bench.proofs.write_turns.Goals as goal

pub slice_bounds-write_all-end : goal.slice_bounds-write_all-end
slice_bounds-write_all-end g c = put_lines_fits c.put_lines-put.ensures

pub slice_bounds-write_all-end-in-loop : goal.slice_bounds-write_all-end-in-loop
slice_bounds-write_all-end-in-loop g c = sym (length-take-le _ _ (put_lines_fits c.put_lines-put.ensures))
