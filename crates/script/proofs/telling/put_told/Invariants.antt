use Rattle.script.specs.Page.{Puts}
use Rattle.script.specs.Telling.{lines_of_told}
use Rattle.script.proofs.telling.put_told.Given as goal

abbrev pub invariant-loop-k : goal.invariant-loop-k
invariant-loop-k l = Puts l.initial.page (lines_of_told l.k l.first l.told) l.page
