use Rattle.std.proofs.Common.{◌-◌, ◌≤◌, length}
use Rattle.bench.proofs.read_full.Given as goal

abbrev pub decreases-loop-size : goal.decreases-loop-size
decreases-loop-size g l = length l.buffer - l.size

abbrev pub invariant-loop-size : goal.invariant-loop-size
invariant-loop-size g l = l.size ≤ length l.buffer
