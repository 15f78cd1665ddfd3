-- The refusals in the order of document 01's table of answers.
use Rattle.std.specs.Prelude.{List, [], ◌∷◌}
use Rattle.ground.specs.declared.refusal.Refusal.{Refusal}
use Rattle.ground.specs.declared.refusal.Refusal.TheVariants.{NotSound, NotBelowCount, SameStation, BadAmount, IntakeLimit, PoolFull, NoSuchPlace, EmptyPlace, NoRecord, ValueLimit, ForAnother, BadLine, LongScript, ShortBuffer, TooFew}

abbrev pub refusals : List Refusal
refusals =
    NotSound ∷ NotBelowCount ∷ SameStation ∷ BadAmount ∷ IntakeLimit ∷ PoolFull ∷ NoSuchPlace ∷ EmptyPlace
    ∷ NoRecord ∷ ValueLimit ∷ ForAnother ∷ BadLine ∷ LongScript ∷ ShortBuffer ∷ TooFew ∷ []
