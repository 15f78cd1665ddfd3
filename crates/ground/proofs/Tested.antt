-- What is refused is not done. Assumes nothing.
use Rattle.std.proofs.Common.{ℕ, ◌≡◌, true, false, refl, sym, subst}
use Rattle.ground.specs.declared.refusal.Refusal.{Refusal}
use Rattle.ground.specs.declared.refusal.Refusal.TheVariants.{NotSound, NotBelowCount, SameStation, BadAmount, IntakeLimit, PoolFull, NoSuchPlace, EmptyPlace, NoRecord, ValueLimit, ForAnother, BadLine, LongScript, ShortBuffer, TooFew}
use Rattle.ground.specs.Tested.{number_of}
use Rattle.ground.specs.Choice.{if_done}

-- whatever the refusal, its number is not 0, and so nothing is done
pub refuses : (r : Refusal) {A : Type 0} (d e : A) → if_done (number_of r) d e ≡ e
refuses NotSound d e = refl
refuses NotBelowCount d e = refl
refuses SameStation d e = refl
refuses BadAmount d e = refl
refuses IntakeLimit d e = refl
refuses PoolFull d e = refl
refuses NoSuchPlace d e = refl
refuses EmptyPlace d e = refl
refuses NoRecord d e = refl
refuses ValueLimit d e = refl
refuses ForAnother d e = refl
refuses BadLine d e = refl
refuses LongScript d e = refl
refuses ShortBuffer d e = refl
refuses TooFew d e = refl

pub not_done : {A : Type 0} {n : ℕ} (r : Refusal) (d e : A) → number_of r ≡ n → if_done n d e ≡ e
not_done r d e p = rw (sym p) (refuses r d e)

pub refused_not_done : (r : Refusal) → number_of r ≡ 0 → ⊥
refused_not_done r p = cc (subst (λ (n : ℕ). if_done n false true ≡ true) p (refuses r false true))
