use mathlib.Core.Path.{◌≡◌}
use mathlib.Core.Bool.{true}
use mathlib.Core.List.{[], ◌∷◌}
use lib.ListN.{replicate}
use lib.Seq.{sets}
use Rattle.std.proofs.Common.{None}
use Rattle.ground.specs.Below.{all_below}
use Rattle.ground.specs.InTurn.{in_turn}
use Rattle.quynhabet.specs.Layout.{place_from, fits_at, cell_at}
use Rattle.quynhabet.proofs.stations.cells_of.Given as goal

abbrev pub invariant-loop-k : goal.invariant-loop-k
invariant-loop-k g l =
    record {
      fit : all_below (fits_at l.numbers (place_from l.at)) l.k ≡ true;
      read : l.cell-items ≡ sets (replicate 16 (record { held = None })) 0 (in_turn (λ j. cell_at g.H.Held.held_on l.numbers (place_from l.at j) ∷ []) l.k);
    }
