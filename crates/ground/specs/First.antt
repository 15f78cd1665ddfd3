-- The first number at which a test holds.
use Rattle.std.specs.Prelude.{ℕ, zero, suc, ◌+◌, Bool, cond}

-- of n numbers from i on, or the number past them
unfoldable pub first_from : (ℕ → Bool) → ℕ → ℕ → ℕ
first_from test zero i = i
first_from test (suc n) i = cond (test i) i (first_from test n (i + 1))
