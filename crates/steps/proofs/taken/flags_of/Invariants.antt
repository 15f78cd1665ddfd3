use Rattle.std.proofs.Common.{ℕ, ◌<◌, ◌≡◌, length, get_or, false}
use Rattle.steps.specs.Looking.{flags_of}
use Rattle.steps.proofs.taken.flags_of.Given as goal

abbrev pub invariant-loop-p : goal.invariant-loop-p
invariant-loop-p l = (length l.taken ≡ 64) × ((q : ℕ) → q < l.p → get_or l.taken q false ≡ get_or (flags_of l.pool) q false)
