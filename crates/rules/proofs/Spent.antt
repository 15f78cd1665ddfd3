-- No spent token is left: a token that a side holds after taking a message is not older than the
-- slot that the message shows, or than the message's own clock where it shows none. Assumes nothing.
use Rattle.std.proofs.Common.{Option, Some, None}
use Prim.Native.Nat.{◌≤◌}
use mathlib.Core.Path.{◌≡◌, refl}
use mathlib.Core.Bool.{◌&&◌}
use native.Mathlib.Omega.{arith}
use lib.Dec.{eqb, ltb}
use borrow.Author.Tests.{ltb-false}
use Rattle.ground.specs.declared.clocks.DestinationClock.{DestinationClock}
use Rattle.rules.specs.declared.held.Slot.{Slot}
use Rattle.rules.specs.declared.held.Token.{Token}
use Rattle.rules.specs.declared.message.Message.{Message}
use Rattle.rules.specs.declared.side.Side.{Side}
use Rattle.rules.specs.declared.rules.Ruled.{Ruled}
use Rattle.ground.specs.Limits.{last_clock}
use Rattle.rules.specs.Rules.{fill, drop_slot, open_slot, destination_shown_by, destination_shown, drop_token_by, make_token_by}
use Rattle.rules.specs.Taking.{five_rules}
use Rattle.ground.proofs.Choices.{chosen}

-- a held token that is not older than a clock
abbrev NotOlder : DestinationClock → Option Token → Type 0
NotOlder shown None = Unit {0}
NotOlder shown (Some t) = shown.0 ≤ t.destination.0

-- rule 4 leaves no other, and rule 5 makes none
dropped : (x : Side) (shown : DestinationClock) (h : Option Token) → x.token ≡ h → NotOlder shown (drop_token_by x shown h).side.token
dropped x shown None e = rw e tt
dropped x shown (Some t) e =
    chosen (λ (r : Ruled). NotOlder shown r.side.token) (ltb t.destination.0 shown.0) _ _ (λ f. tt) (λ f. rw e (ltb-false _ _ f))

made : (x : Side) (m : Message) (h : Option Slot) → NotOlder (destination_shown_by m h) x.token → NotOlder (destination_shown_by m h) (make_token_by x h).side.token
made x m None w = w
made x m (Some l) w =
    chosen (λ (r : Ruled). NotOlder l.destination r.side.token) (eqb l.source.0 x.source.0 && ltb x.source.0 last_clock) _ _ (λ f. omega arith)
    (λ f. w)

taken : (x : Side) (m : Message) → NotOlder (destination_shown m) (five_rules x m).side.token
unfolding five_rules
taken x m =
    let three = (open_slot (drop_slot (fill x m).side m).side m).side in
    made (drop_token_by three (destination_shown m) three.token).side m m.slot (dropped three (destination_shown m) three.token refl)

module _ (x : Side) (m : Message) (t : Token) where
  pub none_before_slot : (l : Slot) → m.slot ≡ Some l → (five_rules x m).side.token ≡ Some t → l.destination.0 ≤ t.destination.0
  none_before_slot l shown held = let h = taken x m in rw (held, shown) at h

  pub none_before_clock : m.slot ≡ None → (five_rules x m).side.token ≡ Some t → m.destination.0 ≤ t.destination.0
  none_before_clock shown held = let h = taken x m in rw (held, shown) at h
