-- Where no rule acts the side stays as it is, and what is put back as it was changes nothing.
-- Assumes nothing.
use Rattle.std.proofs.Common.{Option}
use Prim.Native.Nat.{ℕ}
use mathlib.Core.Path.{◌≡◌, ◌∙◌}
use mathlib.Core.Bool.{Bool, false, cond, or-true}
use Rattle.rules.specs.declared.held.Token.{Token}
use Rattle.rules.specs.declared.held.Slot.{Slot}
use native.Mathlib.Omega.{arith}
use Rattle.ground.proofs.Stores.{set_same}
use Rattle.ground.specs.declared.clocks.DestinationClock.{DestinationClock}
use Rattle.rules.specs.declared.message.Message.{Message}
use Rattle.rules.specs.declared.side.Side.{Side}
use Rattle.rules.specs.Half.{half_above}
use Rattle.ground.proofs.Tests.{not_allowed}
use Rattle.rules.specs.Rules.{acts, rests, fill_by, fill, drop_slot_by, drop_slot, open_slot_by, open_slot, destination_shown, drop_token_by, drop_token, make_token_by, make_token}
use Rattle.rules.specs.Taking.{five_rules}
use Rattle.station.specs.declared.station.Station.{Station}
use Rattle.station.specs.Held.{no_slot, no_token}
use Rattle.station.specs.Side.{side_for, put_side}
use Rattle.table.specs.declared.table.Table.{Table}
use Rattle.table.specs.Table.{station_at, put_station}
use Rattle.steps.specs.Planning.{acted_in}

-- a rule that does not act leaves the side
module _ (x : Side) where
  chosen : (b : Bool) (q : ℕ) (y : Side) → (cond b (acts q y) (rests x)).acted ≡ false → (cond b (acts q y) (rests x)).side ≡ x
  chosen b q y e = grind arith

  fill_rests : (h : Option Token) (l : Option Slot) → (fill_by x h l).acted ≡ false → (fill_by x h l).side ≡ x
  fill_rests h l e = grind arith

  drop_slot_rests : (m : Message) (l : Option Slot) → (drop_slot_by x m l).acted ≡ false → (drop_slot_by x m l).side ≡ x
  drop_slot_rests m l e = grind arith

  open_slot_rests : (m : Message) (q : ℕ) (l : Option Slot) → (open_slot_by x m q l).acted ≡ false → (open_slot_by x m q l).side ≡ x
  open_slot_rests m q l e = grind arith

  drop_token_rests : (shown : DestinationClock) (h : Option Token) → (drop_token_by x shown h).acted ≡ false → (drop_token_by x shown h).side ≡ x
  drop_token_rests shown h e = grind arith

  make_token_rests : (l : Option Slot) → (make_token_by x l).acted ≡ false → (make_token_by x l).side ≡ x
  make_token_rests l e = grind arith

pub rests_same : (x : Side) (m : Message) → acted_in (five_rules x m).report ≡ false → (five_rules x m).side ≡ x
unfolding five_rules
rests_same x m e =
    let one = fill x m in
    let two = drop_slot one.side m in
    let three = open_slot two.side m in
    let four = drop_token three.side m in
    let five = make_token four.side m in
    make_token_rests four.side m.slot (not_allowed five.acted (λ f. simp (f, or-true) at e))
    ∙ drop_token_rests three.side (destination_shown m) three.side.token (not_allowed four.acted (λ f. simp (f, or-true) at e))
    ∙ open_slot_rests two.side m (half_above m.value two.side.value) two.side.slot (not_allowed three.acted (λ f. simp (f, or-true) at e))
    ∙ drop_slot_rests one.side m one.side.slot (not_allowed two.acted (λ f. simp (f, or-true) at e))
    ∙ fill_rests x m.token x.slot (not_allowed one.acted (λ f. simp f at e))

pub side_same : (s : Station) (j : ℕ) → put_side s j (side_for s j) ≡ s
side_same s j = rw (set_same s.slots j no_slot, set_same s.tokens j no_token)

pub station_same : (t : Table) (k : ℕ) → put_station t k (station_at t k) ≡ t
station_same t k = rw (set_same t.stations k _)
