use mathlib.Core.Path.{◌≡◌}
use lib.Seq.{sets}
use Rattle.quynhabet.specs.Layout.{cell_numbers}
use Rattle.ground.specs.InTurn.{in_turn}
use Rattle.quynhabet.proofs.stations.put_cells.Given as goal

abbrev pub invariant-loop-k : goal.invariant-loop-k
invariant-loop-k g l = l.numbers ≡ sets l.initial.numbers l.at (in_turn (cell_numbers g.H.Held.terms_of l.cells) l.k)
