-- The numbered answer, and the result where it is 0. A refusal has result 0.
use Rattle.std.specs.Prelude.{ℕ}
use Rattle.ground.specs.declared.told.Told.{Told}
use Rattle.ground.specs.Choice.{if_done}

abbrev pub told_with : ℕ → ℕ → Told
told_with answer result = record { answer = answer; result = if_done answer result 0 }
