use Rattle.script.proofs.Readings.{Reading}
use Rattle.script.proofs.reading.read_lines.Given as goal

abbrev pub invariant-loop-lines : goal.invariant-loop-lines
invariant-loop-lines l = Reading l.script l.start l.most l.initial.codes l.codes l.at l.lines
