-- What a function gives at 0, 1, 2, and so on below a bound, one after the other.
use Rattle.std.specs.Prelude.{ℕ, zero, suc, List, [], ◌++◌}

unfoldable pub in_turn : {A : Type 0} → (ℕ → List A) → ℕ → List A
in_turn f zero = []
in_turn f (suc n) = in_turn f n ++ f n
