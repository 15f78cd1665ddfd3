-- Sums over the numbers below a bound, and over pairs of them.
use Rattle.std.specs.Prelude.{ℕ, zero, suc, ◌+◌}

unfoldable pub sum_below : (ℕ → ℕ) → ℕ → ℕ
sum_below f zero = 0
sum_below f (suc n) = sum_below f n + f n

abbrev pub sum_pairs : (ℕ → ℕ → ℕ) → ℕ → ℕ
sum_pairs f n = sum_below (λ a. sum_below (f a) n) n
