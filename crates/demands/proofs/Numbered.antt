-- The refusals have the numbers 1 to 15 of document 01's table, each its own, and there is no other
-- refusal. Assumes nothing.
use Rattle.std.proofs.Common.{ℕ, ◌-◌, [], ◌∷◌, map, get_or, ◌≡◌, refl, sym, ap, ◌∙◌}
use Rattle.ground.specs.declared.refusal.Refusal.{Refusal}
use Rattle.ground.specs.declared.refusal.Refusal.TheVariants.{NotSound, NotBelowCount, SameStation, BadAmount, IntakeLimit, PoolFull, NoSuchPlace, EmptyPlace, NoRecord, ValueLimit, ForAnother, BadLine, LongScript, ShortBuffer, TooFew}
use Rattle.ground.specs.Tested.{number_of}
use Rattle.demands.specs.Numbered.{refusals}

pub numbers_printed : map number_of refusals ≡ 1 ∷ 2 ∷ 3 ∷ 4 ∷ 5 ∷ 6 ∷ 7 ∷ 8 ∷ 9 ∷ 10 ∷ 11 ∷ 12 ∷ 13 ∷ 14 ∷ 15 ∷ []
numbers_printed = refl

-- the refusal of a number
abbrev numbered : ℕ → Refusal
numbered n = get_or refusals (n - 1) NotSound

pub stands_at : (r : Refusal) → numbered (number_of r) ≡ r
stands_at NotSound = refl
stands_at NotBelowCount = refl
stands_at SameStation = refl
stands_at BadAmount = refl
stands_at IntakeLimit = refl
stands_at PoolFull = refl
stands_at NoSuchPlace = refl
stands_at EmptyPlace = refl
stands_at NoRecord = refl
stands_at ValueLimit = refl
stands_at ForAnother = refl
stands_at BadLine = refl
stands_at LongScript = refl
stands_at ShortBuffer = refl
stands_at TooFew = refl

pub no_two : (r s : Refusal) → number_of r ≡ number_of s → r ≡ s
no_two r s e = sym (stands_at r) ∙ ap numbered e ∙ stands_at s
