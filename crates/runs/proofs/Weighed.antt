-- The entries of a delivery weigh what it reports. Assumes nothing.
use Rattle.std.proofs.Common.{Option, Some, None}
use Prim.Native.Nat.{min}
use mathlib.Core.Path.{◌≡◌, refl}
use mathlib.Core.Bool.{◌&&◌}
use native.Mathlib.Omega.{arith}
use native.Mathlib.Nat.{add-zero}
use Rattle.rules.specs.declared.held.Token.{Token}
use Rattle.rules.specs.declared.held.Slot.{Slot}
use lib.Dec.{eqb, ltb}
use Rattle.handshake.specs.History.{departed, arrived}
use Rattle.handshake.proofs.Histories.{departed_both, arrived_both}
use Rattle.ground.specs.Limits.{last_clock}
use Rattle.rules.specs.Rules.{agree, fill_by, make_token_by, fill, drop_slot, open_slot, drop_token, make_token}
use Rattle.rules.specs.Taking.{five_rules}
use Rattle.rules.specs.declared.message.Message.{Message}
use Rattle.rules.specs.declared.rules.Ruled.{Ruled}
use Rattle.rules.specs.declared.side.Side.{Side}
use Rattle.ground.proofs.Choices.{chosen}
use Rattle.runs.specs.Demand3.{amount}
use Rattle.runs.specs.Runs.{arrival_by, departure_by, entries_by}

-- what is reported is what the entries weigh
module _ (m : Message) where
  abbrev Lands : Option Token → Ruled → Type 0
  Lands h r = (arrived amount (arrival_by m h r.acted r.quantity) ≡ r.quantity) × (departed amount (arrival_by m h r.acted r.quantity) ≡ 0)

  abbrev Leaves : Option Slot → Ruled → Type 0
  Leaves h r = (departed amount (departure_by m h r.acted r.quantity) ≡ r.quantity) × (arrived amount (departure_by m h r.acted r.quantity) ≡ 0)

  pub lands : (x : Side) (h : Option Token) (l : Option Slot) → Lands h (fill_by x h l)
  unfolding departed arrived
  lands x None l = (refl, refl)
  lands x (Some t) None = (refl, refl)
  lands x (Some t) (Some l) = chosen (Lands (Some t)) (agree t l) _ _ (λ e. (add-zero t.quantity, refl)) (λ e. (refl, refl))

  leaves : (x : Side) (h : Option Slot) → Leaves h (make_token_by x h)
  unfolding departed arrived
  leaves x None = (refl, refl)
  leaves x (Some l) =
      chosen (Leaves (Some l)) (eqb l.source.0 x.source.0 && ltb x.source.0 last_clock) _ _ (λ e. (add-zero (min x.value l.quantity), refl))
      (λ e. (refl, refl))

  pub taken_weighs : (x : Side) → let r = five_rules x m in let K = entries_by (Some m) r.result r.report in
      (arrived amount K ≡ r.result) × (departed amount K ≡ r.report.made)
  unfolding five_rules
  taken_weighs x =
      let one = fill x m in
      let four = drop_token (open_slot (drop_slot one.side m).side m).side m in
      let five = make_token four.side m in
      let came = arrival_by m m.token one.acted one.quantity in
      let went = departure_by m m.slot five.acted five.quantity in
      let a = lands x m.token x.slot in
      let d = leaves four.side m.slot in (
        omega (arith, arrived_both amount came went, a.0, d.1),
        omega (arith, departed_both amount came went, a.1, d.0),
      )
