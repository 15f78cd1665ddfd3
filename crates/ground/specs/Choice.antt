-- What is done, and what is refused.
use Rattle.std.specs.Prelude.{ℕ, zero, suc}

-- answer 0 is what was done; any other answer is the refusal
abbrev pub if_done : {A : Type 0} → ℕ → A → A → A
if_done zero d r = d
if_done (suc n) d r = r
