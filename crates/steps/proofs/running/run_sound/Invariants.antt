use Rattle.steps.proofs.Turns.{Going}
use Rattle.steps.proofs.running.run_sound.Given as goal

abbrev pub invariant-loop-n : goal.invariant-loop-n
invariant-loop-n l = Going l.codes l.initial.told l.steps l.initial.table l.told l.table l.taken l.n
