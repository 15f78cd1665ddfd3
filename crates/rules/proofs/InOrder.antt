-- The five rules one after the other. Assumes nothing.
use Rattle.std.proofs.Common.{Option, Some, None}
use Prim.Native.Nat.{ℕ}
use mathlib.Core.Path.{◌≡◌, refl}
use Rattle.rules.specs.declared.held.Slot.{Slot}
use lib.Dec.{ltb}
use Rattle.ground.proofs.Choices.{chosen}
use Rattle.rules.specs.declared.message.Message.{Message}
use Rattle.rules.specs.declared.side.Side.{Side}
use Rattle.rules.specs.declared.rules.Ruled.{Ruled}
use Rattle.rules.specs.Half.{half_above}
use Rattle.rules.specs.Rules.{fill, drop_slot, drop_slot_by, open_slot_by, drop_token, make_token}
use Rattle.rules.specs.Taking.{reported, five_rules}

drop_slot_value_by : (x : Side) (m : Message) (h : Option Slot) → (drop_slot_by x m h).side.value ≡ x.value
drop_slot_value_by x m None = refl
drop_slot_value_by x m (Some l) = chosen (λ (r : Ruled). r.side.value ≡ x.value) (ltb l.source.0 m.source.0) _ _ (λ e. refl) (λ e. refl)

-- rule 2 leaves the value
pub drop_slot_value : (x : Side) (m : Message) → (drop_slot x m).side.value ≡ x.value
drop_slot_value x m = drop_slot_value_by x m x.slot

pub taken : (x : Side) (m : Message) (one two three four five : Ruled) {h : ℕ} → one ≡ fill x m → two ≡ drop_slot one.side m
    → h ≡ half_above m.value two.side.value → three ≡ open_slot_by two.side m h two.side.slot
    → four ≡ drop_token three.side m → five ≡ make_token four.side m → reported one two three four five ≡ five_rules x m
unfolding five_rules
taken x m one two three four five e1 e2 eh e3 e4 e5 = cc
