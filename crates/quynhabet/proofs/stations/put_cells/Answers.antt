use mathlib.Core.Path.{refl}
use native.Mathlib.Omega.{arith}
use Rattle.std.proofs.Common.{None}
use Rattle.std.proofs.lemmas.List.{get_or_default}
use Rattle.quynhabet.specs.Layout.{cell_numbers}
use Rattle.ground.proofs.InTurn.{turn_none, turn_four}
use Rattle.quynhabet.proofs.stations.put_cells.Goals as goal

pub loop-k-init : goal.loop-k-init
loop-k-init g c = turn_none _ _ _

pub loop-k-preserved : goal.loop-k-preserved
loop-k-preserved g c =
    let at = c.loop-k in
    let cells = c.args.cells.now in
    let f = cell_numbers g.H.Held.terms_of cells in
    let same = get_or_default cells at.k c.index-cells-k.result (record { held = None }) (omega arith) in
    turn_four f (λ j. refl) c.args.numbers.now c.args.at at.k at.numbers _ at.invariant (rw (c.four_of.ensures, same) at c.put_four.ensures)
