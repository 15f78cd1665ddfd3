-- What each rule leaves alone, and what it does to the value. Assumes nothing.
use Rattle.std.proofs.Common.{Option, Some, None}
use Prim.Native.Nat.{ℕ, ◌+◌}
use mathlib.Core.Path.{◌≡◌, refl, sym, ◌∙◌}
use mathlib.Core.Bool.{◌&&◌}
use native.Mathlib.Omega.{arith}
use native.Mathlib.Nat.{add-zero}
use Rattle.rules.specs.declared.held.Token.{Token}
use Rattle.rules.specs.declared.held.Slot.{Slot}
use lib.Dec.{eqb, ltb, leb}
use Rattle.rules.specs.Half.{half_above}
use Rattle.ground.specs.Limits.{last_clock}
use Rattle.rules.specs.Rules.{agree, fill_by, drop_slot_by, open_slot_by, destination_shown, drop_token_by, make_token_by, fill, drop_slot, open_slot, drop_token, make_token}
use Rattle.rules.specs.Taking.{five_rules}
use Rattle.ground.specs.declared.clocks.DestinationClock.{DestinationClock}
use Rattle.rules.specs.declared.message.Message.{Message}
use Rattle.rules.specs.declared.rules.Ruled.{Ruled}
use Rattle.rules.specs.declared.side.Side.{Side}
use Rattle.ground.proofs.Choices.{chosen}

-- rules 1 to 3 are the receiver's: they leave what it gives
pub record Takes (x y : Side) : Type 0 where
  pub source : y.source ≡ x.source
  pub token : y.token ≡ x.token

-- rules 4 and 5 are the giver's: they leave what it takes
pub record Gives (x y : Side) : Type 0 where
  pub destination : y.destination ≡ x.destination
  pub slot : y.slot ≡ x.slot

abbrev Filled : Side → Ruled → Type 0
Filled x r = Takes x r.side × (r.side.value ≡ x.value + r.quantity)

abbrev Took : Side → Ruled → Type 0
Took x r = Takes x r.side × (r.side.value ≡ x.value)

abbrev Dropped : Side → Ruled → Type 0
Dropped x r = Gives x r.side × (r.side.value ≡ x.value)

abbrev Made : Side → Ruled → Type 0
Made x r = Gives x r.side × (r.side.value + r.quantity ≡ x.value)

took : {x : Side} → Takes x x
took = record { source = refl; token = refl }

gave : {x : Side} → Gives x x
gave = record { destination = refl; slot = refl }

fill_by_lem : (x : Side) (m : Option Token) (h : Option Slot) → Filled x (fill_by x m h)
fill_by_lem x None h = (took, sym (add-zero x.value))
fill_by_lem x (Some t) None = (took, sym (add-zero x.value))
fill_by_lem x (Some t) (Some l) = chosen (Filled x) (agree t l) _ _ (λ e. (record { source = refl; token = refl }, refl)) (λ e. (took, sym (add-zero x.value)))

drop_slot_by_lem : (x : Side) (m : Message) (h : Option Slot) → Took x (drop_slot_by x m h)
drop_slot_by_lem x m None = (took, refl)
drop_slot_by_lem x m (Some l) = chosen (Took x) (ltb l.source.0 m.source.0) _ _ (λ e. (record { source = refl; token = refl }, refl)) (λ e. (took, refl))

open_slot_by_lem : (x : Side) (m : Message) (q : ℕ) (h : Option Slot) → Took x (open_slot_by x m q h)
open_slot_by_lem x m q (Some l) = (took, refl)
open_slot_by_lem x m q None = chosen (Took x) (leb 1 q && ltb x.destination.0 last_clock) _ _ (λ e. (record { source = refl; token = refl }, refl)) (λ e. (took, refl))

drop_token_by_lem : (x : Side) (shown : DestinationClock) (h : Option Token) → Dropped x (drop_token_by x shown h)
drop_token_by_lem x shown None = (gave, refl)
drop_token_by_lem x shown (Some t) =
    chosen (Dropped x) (ltb t.destination.0 shown.0) _ _ (λ e. (record { destination = refl; slot = refl }, refl)) (λ e. (gave, refl))

make_token_by_lem : (x : Side) (h : Option Slot) → Made x (make_token_by x h)
make_token_by_lem x None = (gave, add-zero x.value)
make_token_by_lem x (Some l) =
    chosen (Made x) (eqb l.source.0 x.source.0 && ltb x.source.0 last_clock) _ _ (λ e. (record { destination = refl; slot = refl }, omega arith))
    (λ e. (gave, add-zero x.value))

module _ (x : Side) (m : Message) where
  pub filled : Filled x (fill x m)
  filled = fill_by_lem x m.token x.slot

  pub slot_dropped_lem : Took x (drop_slot x m)
  slot_dropped_lem = drop_slot_by_lem x m x.slot

  pub slot_opened : Took x (open_slot x m)
  slot_opened = open_slot_by_lem x m (half_above m.value x.value) x.slot

  pub token_dropped : Dropped x (drop_token x m)
  token_dropped = drop_token_by_lem x (destination_shown m) x.token

  pub token_made_lem : Made x (make_token x m)
  token_made_lem = make_token_by_lem x m.slot

-- the value after all five, with what was made, is the value before with what was filled
pub taken_value : (x : Side) (m : Message) → (five_rules x m).side.value + (five_rules x m).report.made ≡ x.value + (five_rules x m).result
unfolding five_rules
taken_value x m =
    let one = fill x m in
    let two = drop_slot one.side m in
    let three = open_slot two.side m in
    let four = drop_token three.side m in
    (token_made_lem four.side m).1 ∙ (token_dropped three.side m).1 ∙ (slot_opened two.side m).1 ∙ (slot_dropped_lem one.side m).1 ∙ (filled x m).1
