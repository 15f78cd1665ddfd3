use Rattle.std.proofs.Common.{◌≡◌}
use Rattle.ground.specs.Below.{all_below}
use Rattle.station.specs.Sound.{cells_sound}
use Rattle.station.proofs.sound.cells_are_sound.Given as goal

abbrev pub invariant-loop-k : goal.invariant-loop-k
invariant-loop-k l = l.sound ≡ all_below (cells_sound l.s) l.k
