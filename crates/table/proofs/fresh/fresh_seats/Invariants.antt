use Rattle.std.proofs.Common.{◌≡◌}
use Rattle.table.specs.Fresh.{seats_to}
use Rattle.table.proofs.fresh.fresh_seats.Given as goal

abbrev pub invariant-loop-k : goal.invariant-loop-k
invariant-loop-k l = l.stations ≡ seats_to l.count l.k
