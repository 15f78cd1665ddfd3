-- A sound side, with its clocks where they were or later, put back for a peer leaves a sound
-- station. Assumes nothing.
use Rattle.std.proofs.Common.{Option, Some, None}
use Prim.Native.Nat.{ℕ, ◌<◌, ◌≤◌}
use mathlib.Core.Path.{◌≡◌, refl}
use mathlib.Core.Bool.{true, ◌||◌, and-false}
use native.Mathlib.Omega.{arith}
use Rattle.rules.specs.declared.held.Token.{Token}
use Rattle.rules.specs.declared.held.Slot.{Slot}
use lib.Dec.{ltb}
use borrow.Author.Tests.{ltb-true, lt-ltb}
use Rattle.ground.specs.declared.clocks.SourceClock.{SourceClock}
use Rattle.ground.specs.declared.clocks.DestinationClock.{DestinationClock}
use Rattle.station.specs.declared.held.PeerCell.{PeerCell}
use Rattle.station.specs.declared.station.Station.{Station}
use Rattle.rules.specs.declared.side.Side.{Side}
use Rattle.ground.specs.Limits.{most_stations}
use Rattle.station.specs.Held.{no_slot, no_token, slot_for, token_for}
use Rattle.station.specs.Side.{side_for, put_side}
use Rattle.station.specs.Sound.{slot_sound, token_sound, holds_nothing, is_peer}
use Rattle.ground.proofs.Stores.{stored}
use Rattle.ground.proofs.Tests.{needed}
use Rattle.station.proofs.Parts.{SoundStation}
use Rattle.station.proofs.KeepsSide.{SoundSide}

-- what lies below a clock lies below a later one: so a slot stays sound, and a token
below_later : (a : ℕ) {k l : ℕ} → k ≤ l → ltb a k ≡ true → ltb a l ≡ true
below_later a {k} {l} h e = let b = ltb-true a k e in lt-ltb a l (omega arith)

slot_later : (h : Option Slot) {clock later : DestinationClock} → clock.0 ≤ later.0 → slot_sound h clock ≡ true → slot_sound h later ≡ true
slot_later None o e = refl
slot_later (Some l) {clock = clock} o e =
    let early = needed (ltb l.destination.0 clock.0) (λ f. simp (f, and-false) at e) in
    rw (below_later l.destination.0 o early) (rw early at e)

token_later : (h : Option Token) {clock later : SourceClock} → clock.0 ≤ later.0 → token_sound h clock ≡ true → token_sound h later ≡ true
token_later None o e = refl
token_later (Some t) {clock = clock} o e =
    let early = needed (ltb t.source.0 clock.0) (λ f. simp (f, and-false) at e) in
    rw (below_later t.source.0 o early) (rw early at e)

-- a side of a sound station is sound
pub side_sound : (s : Station) (k : ℕ) → SoundStation s → k < most_stations → SoundSide (side_for s k) (side_for s k)
side_sound s k w h =
    record { value = w.value; source = (omega arith, w.source); destination = (omega arith, w.destination); slot = w.slots k h; token = w.tokens k h }

-- what a station holds for itself, or for a number not below the count, stays nothing: a side is
-- put back only for a peer
pub put_sound : (s : Station) (k : ℕ) {x : Side} → SoundStation s → is_peer s k ≡ true → SoundSide (side_for s k) x → SoundStation (put_side s k x)
put_sound s k {x} w peer v =
    record {
      least = w.least;
      most = w.most;
      seat = w.seat;
      value = v.value;
      intake = w.intake;
      source = v.source.1;
      destination = v.destination.1;
      slots =
          λ j b.
          stored (λ (c : PeerCell Slot). slot_sound c.held x.destination ≡ true) s.slots k j no_slot (λ e. v.slot)
          (slot_later (slot_for s j) v.destination.0 (w.slots j b));
      tokens =
          λ j b.
          stored (λ (c : PeerCell Token). token_sound c.held x.source ≡ true) s.tokens k j no_token (λ e. v.token)
          (token_later (token_for s j) v.source.0 (w.tokens j b));
      peers =
          λ j b.
          stored (λ (c : PeerCell Slot). (is_peer s j || holds_nothing c.held (token_for (put_side s k x) j)) ≡ true) s.slots k j no_slot (λ e. rw (e, peer))
          (stored (λ (c : PeerCell Token). (is_peer s j || holds_nothing (slot_for s j) c.held) ≡ true) s.tokens k j no_token (λ e. rw (e, peer)) (w.peers j b));
    }
