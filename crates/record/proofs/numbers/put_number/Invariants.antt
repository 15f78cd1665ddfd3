use mathlib.Core.Path.{◌≡◌}
use lib.Seq.{sets}
use Rattle.record.specs.Numbers.{big}
use Rattle.record.proofs.numbers.put_number.Given as goal

-- what is still to be stored, stored now, gives the end result
abbrev pub invariant-loop-k : goal.invariant-loop-k
invariant-loop-k l = sets l.buffer l.at (big l.k l.rest) ≡ sets l.initial.buffer l.at (big l.size l.x)
