-- The five rules keep a side sound and turn neither of its clocks back. Assumes nothing.
use Rattle.std.proofs.Common.{Option, Some, None}
use Prim.Native.Nat.{ℕ, ◌+◌, ◌≤◌, min}
use mathlib.Core.Path.{◌≡◌, refl}
use mathlib.Core.Bool.{Bool, true, false, cond, ◌&&◌, and-false}
use native.Mathlib.Omega.{arith}
use Rattle.rules.specs.declared.held.Token.{Token}
use Rattle.rules.specs.declared.held.Slot.{Slot}
use lib.Dec.{eqb, ltb, leb}
use borrow.Author.Tests.{ltb-true, eqb-true, lt-ltb, le-leb}
use Rattle.ground.specs.declared.clocks.DestinationClock.{DestinationClock}
use Rattle.rules.specs.declared.message.Message.{Message}
use Rattle.rules.specs.declared.side.Side.{Side}
use Rattle.ground.specs.Limits.{most_value, last_clock}
use Rattle.rules.specs.Half.{half_above}
use Rattle.rules.specs.Side.{put_value, put_slot}
use Rattle.station.specs.Sound.{slot_sound, token_sound}
use Rattle.rules.specs.Rules.{acts, rests, agree, fill, fill_by, drop_slot, drop_slot_by, open_slot, open_slot_by, destination_shown, drop_token_by, make_token_by}
use Rattle.rules.specs.Taking.{five_rules}
use Rattle.ground.proofs.Tests.{needed}
use Rattle.rules.proofs.Signed.{half_cut}
use Rattle.station.proofs.Parts.{SoundMessage}

-- side x is sound, and its clocks are where those of side o were or later
pub record SoundSide (o x : Side) : Type 0 where
  pub value : x.value ≤ most_value
  pub source : (o.source.0 ≤ x.source.0) × (x.source.0 ≤ last_clock)
  pub destination : (o.destination.0 ≤ x.destination.0) × (x.destination.0 ≤ last_clock)
  pub slot : slot_sound x.slot x.destination ≡ true
  pub token : token_sound x.token x.source ≡ true

half_fits : (a b : ℕ) → a ≤ most_value → half_above a b ≤ most_value
half_fits a b h = rw half_cut (omega arith)

module _ {o x : Side} (w : SoundSide o x) where
  -- a rule acts under its test, and else leaves the side
  ruled : (t : Bool) (q : ℕ) (y : Side) → (t ≡ true → SoundSide o y) → SoundSide o (cond t (acts q y) (rests x)).side
  ruled true q y f = f refl
  ruled false q y f = w

  -- rules 1 and 2 leave no slot
  without_slot : (v : ℕ) → v ≤ most_value → SoundSide o (put_slot (put_value x v) None)
  without_slot v h = record { value = h; source = w.source; destination = w.destination; slot = refl; token = w.token }

  fill_keeps : (g : Option Token) (h : Option Slot) → (fill_by x g h).side.value ≤ most_value → SoundSide o (fill_by x g h).side
  fill_keeps None h room = w
  fill_keeps (Some t) None room = w
  fill_keeps (Some t) (Some l) room = ruled (agree t l) _ _ (λ e. without_slot (x.value + t.quantity) (rw e at room))

  drop_slot_keeps : (m : Message) (h : Option Slot) → SoundSide o (drop_slot_by x m h).side
  drop_slot_keeps m None = w
  drop_slot_keeps m (Some l) = ruled (ltb l.source.0 m.source.0) _ _ (λ e. without_slot x.value w.value)

  drop_token_keeps : (shown : DestinationClock) (g : Option Token) → SoundSide o (drop_token_by x shown g).side
  drop_token_keeps shown None = w
  drop_token_keeps shown (Some t) =
      ruled (ltb t.destination.0 shown.0) _ _
      (λ e. record { value = w.value; source = w.source; destination = w.destination; slot = w.slot; token = refl })

  -- the slot opened bears the destination clock that then goes up, so it lies below the new one
  open_slot_keeps : (m : Message) → SoundMessage m → (q : ℕ) → q ≤ most_value → (h : Option Slot) → SoundSide o (open_slot_by x m q h).side
  open_slot_keeps m shows q fits (Some l) = w
  open_slot_keeps m shows q fits None =
      ruled (leb 1 q && ltb x.destination.0 last_clock) _ _
      (λ e.
      let Some = needed (leb 1 q) (λ f. rw f at e) in
      let runs = needed (ltb x.destination.0 last_clock) (λ f. simp (f, and-false) at e) in
      let early = ltb-true x.destination.0 last_clock runs in
      rw runs
      (record {
        value = w.value;
        source = w.source;
        destination = (omega arith, omega arith);
        slot = rw (Some, le-leb _ _ fits, le-leb _ _ shows.source, lt-ltb x.destination.0 (x.destination.0 + 1) (omega arith));
        token = w.token;
      }))

  -- the token made bears the source clock that then goes up, and a destination clock below the one
  -- that the message shows
  make_token_keeps : (m : Message) → SoundMessage m → (h : Option Slot) → slot_sound h m.destination ≡ true → SoundSide o (make_token_by x h).side
  make_token_keeps m shows None sound = w
  make_token_keeps m shows (Some l) sound =
      ruled (eqb l.source.0 x.source.0 && ltb x.source.0 last_clock) _ _
      (λ e.
      let same = eqb-true l.source.0 x.source.0 (needed (eqb l.source.0 x.source.0) (λ f. rw f at e)) in
      let runs = needed (ltb x.source.0 last_clock) (λ f. simp (f, and-false) at e) in
      let early = ltb-true x.source.0 last_clock runs in
      let asked = ltb-true l.destination.0 m.destination.0 (needed (ltb l.destination.0 m.destination.0) (λ f. simp (f, and-false) at sound)) in
      let q = min x.value l.quantity in
      rw runs
      (record {
        value = omega arith;
        source = (omega arith, omega arith);
        destination = w.destination;
        slot = w.slot;
        token =
            rw (le-leb q most_value (omega arith), le-leb l.destination.0 last_clock (omega arith), lt-ltb l.source.0 (x.source.0 + 1) (omega arith));
      }))

-- the five in order, where the value has room for the fill
pub take_keeps : {o x : Side} (m : Message) → SoundSide o x → SoundMessage m → (fill x m).side.value ≤ most_value → SoundSide o (five_rules x m).side
unfolding five_rules
take_keeps {x = x} m w shows room =
    let a = (fill x m).side in
    let b = (drop_slot a m).side in
    let c = (open_slot b m).side in
    let one = fill_keeps w m.token x.slot room in
    let two = drop_slot_keeps one m a.slot in
    let three = open_slot_keeps two m shows (half_above m.value b.value) (half_fits m.value b.value shows.value) b.slot in
    make_token_keeps (drop_token_keeps three (destination_shown m) c.token) m shows m.slot shows.slot
