-- Half of what another has more.
use Rattle.std.specs.Prelude.{ℕ, pos, ◌-ℤ◌}
use Rattle.ground.specs.Half.{half_of}

-- half of their value less ours
abbrev pub half_above : ℕ → ℕ → ℕ
half_above theirs ours = half_of (pos theirs -ℤ pos ours)
