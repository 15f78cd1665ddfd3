use Rattle.std.proofs.Common.{◌≡◌, ◌≤◌, ◌-◌}
use Rattle.ground.specs.First.{first_from}
use Rattle.pool.specs.Pool.{place_in, is_empty, lowest_empty}
use Rattle.pool.proofs.lent.send_in.Given as goal

abbrev pub invariant-loop-p : goal.invariant-loop-p
invariant-loop-p l = record { within : l.p ≤ 64; still : first_from (λ p. is_empty (place_in l.pool p)) (64 - l.p) l.p ≡ lowest_empty l.pool }

abbrev pub decreases-loop-p : goal.decreases-loop-p
decreases-loop-p l = 64 - l.p
