use Rattle.script.specs.Page.{Puts}
use Rattle.script.specs.Script.{station_lines}
use Rattle.script.proofs.closing.put_stations.Given as goal

abbrev pub invariant-loop-k : goal.invariant-loop-k
invariant-loop-k l = Puts l.initial.page (station_lines l.fn.t l.k) l.page
