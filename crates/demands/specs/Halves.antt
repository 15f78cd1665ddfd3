-- Half of the difference of two values, at -1, 0 and 1 and at both ends.
use Rattle.std.specs.Prelude.{ℕ, List, [], ◌∷◌}
use Rattle.rules.specs.Half.{half_above}

pub record Halving : Type 0 where
  pub theirs : ℕ
  pub ours : ℕ
  pub half : ℕ

abbrev pub computed : Halving → ℕ
computed h = half_above h.theirs h.ours

abbrev pub halves : List Halving
halves =
    record { theirs = 7; ours = 8; half = 0 }
    ∷ record { theirs = 7; ours = 7; half = 0 }
    ∷ record { theirs = 8; ours = 7; half = 0 }
    ∷ record { theirs = 9; ours = 7; half = 1 }
    ∷ record { theirs = 10; ours = 7; half = 1 }
    ∷ record { theirs = 16000000000; ours = 0; half = 8000000000 }
    ∷ record { theirs = 15999999999; ours = 0; half = 7999999999 }
    ∷ record { theirs = 0; ours = 16000000000; half = 0 }
    ∷ []
