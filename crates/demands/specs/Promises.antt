-- The contract of a function as the prover has it: the clauses that it wrote down from the source,
-- PATH.clauses of each public function, in any model of the programs that it speaks of. And what it
-- is for such a contract to say one thing and nothing else.
use Rattle.std.specs.Prelude.{◌≡◌}
use seplogic.Ra.Ura.{Ura}
use base.Logic.{SProp, emp}
use prog.Memory.{Memory}
use prog.Routine.{Routine}
use types.Logic.{Logic}
use contract.Lifetimes.{Lfts}
use contract.Monad.{Fun, fact}
use denote.Triple.Clauses.{AtExit, Clauses, ClausesAt, Ended}
use denote.Triple.Entry.{Args, Res}

-- of a function's signature: the lifetimes of what is lent, the arguments, the result, and the
-- parameters when it has returned
abbrev pub Lifetimes : Ended → Type 0
Lifetimes T = Lfts T.signature.lifetimes

abbrev pub Arguments : Ended → Type 0
Arguments T = (κ : Lifetimes T) → Args T.signature κ

abbrev pub Result : (T : Ended) → Lifetimes T → Type 0
Result T κ = Res T.signature κ

abbrev pub After : (T : Ended) → Lifetimes T → Type 0
After T κ = AtExit T κ

-- the clauses, and the clauses of one call
abbrev pub Contract : Ended → Type 2
Contract T = (M : Type 1) (𝓤 : Ura M) (𝓛 : Logic 𝓤) → (Memory → SProp 𝓤) → (Routine → Fun 𝓤) → Clauses 𝓤 T

abbrev pub Call : Ended → Type 2
Call T = (M : Type 1) (𝓤 : Ura M) (𝓛 : Logic 𝓤) → (Memory → SProp 𝓤) → (Routine → Fun 𝓤) → (κ : Lifetimes T) → ClausesAt 𝓤 T κ

abbrev pub call : (T : Ended) → Contract T → Arguments T → Call T
call T contract arguments M 𝓤 𝓛 memory run κ = contract M 𝓤 𝓛 memory run κ (arguments κ)

-- asks for nothing, and gives one fact
abbrev pub gives : (T : Ended) → ((κ : Lifetimes T) → Result T κ → After T κ → Type 0) → Call T
gives T promise M 𝓤 𝓛 memory run κ = record { ghost = Unit {0}; requires = λ g. emp 𝓤; ensures = λ g r e. fact 𝓤 (promise κ r e) }

-- a call with these arguments asks for nothing, and promises this
abbrev pub Promises : (T : Ended) → Contract T → Arguments T → ((κ : Lifetimes T) → Result T κ → After T κ → Type 0) → Type 2
Promises T contract arguments promise = call T contract arguments ≡ gives T promise

-- the contract is this promise of the result, and any two results that it allows are equal
pub record Settles (T : Ended) (contract : Contract T) (arguments : Arguments T) (promise : (κ : Lifetimes T) → Result T κ → Type 0) : Type 2 where
  pub promised : Promises T contract arguments (λ κ r e. promise κ r)
  pub settled : (κ : Lifetimes T) (x y : Result T κ) → promise κ x → promise κ y → x ≡ y

-- where something is lent to be changed, the outcome is the result together with what is then there
pub record SettlesBoth {B : Type 0} (T : Ended) (contract : Contract T) (arguments : Arguments T) (later : (κ : Lifetimes T) → After T κ → B)
    (promise : (κ : Lifetimes T) → Result T κ → B → Type 0) : Type 2 where
  pub promised : Promises T contract arguments (λ κ r e. promise κ r (later κ e))
  pub settled : (κ : Lifetimes T) (x y : Result T κ × B) → promise κ x.0 x.1 → promise κ y.0 y.1 → x ≡ y
