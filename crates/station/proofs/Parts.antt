-- Soundness of a station and of a message, part by part. Assumes nothing.
use Rattle.std.proofs.Common.{Option, Some, None}
use Prim.Native.Nat.{ℕ, ◌<◌, ◌≤◌}
use mathlib.Core.Path.{◌≡◌, refl}
use mathlib.Core.Bool.{true, ◌||◌, not, and-false}
use Rattle.rules.specs.declared.held.Token.{Token}
use lib.Dec.{ltb, leb, eqb}
use borrow.Author.Tests.{ltb-true, leb-true, lt-ltb, le-leb, eqb-false, not-true}
use Rattle.ground.specs.declared.clocks.SourceClock.{SourceClock}
use Rattle.station.specs.declared.station.Station.{Station}
use Rattle.rules.specs.declared.message.Message.{Message}
use Rattle.ground.specs.Limits.{most_stations, most_intake, most_value, last_clock}
use Rattle.station.specs.Held.{slot_for, token_for}
use Rattle.ground.specs.Below.{all_below}
use Rattle.ground.specs.Clocks.{clock_sound}
use Rattle.station.specs.Sound.{slot_sound, token_sound, holds_nothing, is_peer, cells_sound, station_sound, message_sound}
use Rattle.rules.specs.Taking.{token_small, TokenInRange}
use Rattle.ground.proofs.Tests.{needed}
use Rattle.ground.proofs.Below.{all_at, all_from}

pub record SoundStation (s : Station) : Type 0 where
  pub least : 2 ≤ s.count
  pub most : s.count ≤ most_stations
  pub seat : s.number < s.count
  pub value : s.value ≤ most_value
  pub intake : s.intake ≤ most_intake
  pub source : s.source.0 ≤ last_clock
  pub destination : s.destination.0 ≤ last_clock
  pub slots : (k : ℕ) → k < most_stations → slot_sound (slot_for s k) s.destination ≡ true
  pub tokens : (k : ℕ) → k < most_stations → token_sound (token_for s k) s.source ≡ true
  pub peers : (k : ℕ) → k < most_stations → (is_peer s k || holds_nothing (slot_for s k) (token_for s k)) ≡ true

pub station_parts : (s : Station) → station_sound s ≡ true → SoundStation s
unfolding station_sound
station_parts s e =
    let cells = needed (all_below (cells_sound s) most_stations) (λ f. simp (f, and-false) at e) in
    record {
      least = leb-true _ _ (needed (leb 2 s.count) (λ f. simp f at e));
      most = leb-true _ _ (needed (leb s.count most_stations) (λ f. simp (f, and-false) at e));
      seat = ltb-true _ _ (needed (ltb s.number s.count) (λ f. simp (f, and-false) at e));
      value = leb-true _ _ (needed (leb s.value most_value) (λ f. simp (f, and-false) at e));
      intake = leb-true _ _ (needed (leb s.intake most_intake) (λ f. simp (f, and-false) at e));
      source = leb-true _ _ (needed (clock_sound s.source.0) (λ f. simp (f, and-false) at e));
      destination = leb-true _ _ (needed (clock_sound s.destination.0) (λ f. simp (f, and-false) at e));
      slots = λ k h. needed (slot_sound (slot_for s k) s.destination) (λ f. simp f at (all_at (cells_sound s) most_stations k cells h));
      tokens = λ k h. needed (token_sound (token_for s k) s.source) (λ f. simp (f, and-false) at (all_at (cells_sound s) most_stations k cells h));
      peers =
          λ k h.
          needed (is_peer s k || holds_nothing (slot_for s k) (token_for s k)) (λ f. simp (f, and-false) at (all_at (cells_sound s) most_stations k cells h));
    }

pub station_whole : (s : Station) → SoundStation s → station_sound s ≡ true
unfolding station_sound
station_whole s w =
    let cells = all_from (cells_sound s) most_stations (λ k h. rw (w.slots k h, w.tokens k h, w.peers k h)) in
    rw (
      le-leb _ _ w.least,
      le-leb _ _ w.most,
      lt-ltb _ _ w.seat,
      le-leb _ _ w.value,
      le-leb _ _ w.intake,
      le-leb _ _ w.source,
      le-leb _ _ w.destination,
      cells,
    )

pub record SoundMessage (m : Message) : Type 0 where
  pub from : m.from ≤ 15
  pub to : m.to ≤ 15
  pub other : m.from ≡ m.to → ⊥
  pub value : m.value ≤ most_value
  pub source : m.source.0 ≤ last_clock
  pub destination : m.destination.0 ≤ last_clock
  pub slot : slot_sound m.slot m.destination ≡ true
  pub token : token_sound m.token m.source ≡ true

pub message_parts : (m : Message) → message_sound m ≡ true → SoundMessage m
unfolding message_sound
message_parts m e =
    record {
      from = leb-true _ _ (needed (leb m.from 15) (λ f. simp f at e));
      to = leb-true _ _ (needed (leb m.to 15) (λ f. simp (f, and-false) at e));
      other = eqb-false _ _ (not-true _ (needed (not (eqb m.from m.to)) (λ f. simp (f, and-false) at e)));
      value = leb-true _ _ (needed (leb m.value most_value) (λ f. simp (f, and-false) at e));
      source = leb-true _ _ (needed (clock_sound m.source.0) (λ f. simp (f, and-false) at e));
      destination = leb-true _ _ (needed (clock_sound m.destination.0) (λ f. simp (f, and-false) at e));
      slot = needed (slot_sound m.slot m.destination) (λ f. simp (f, and-false) at e);
      token = needed (token_sound m.token m.source) (λ f. simp (f, and-false) at e);
    }

pub token_fits_lem : (h : Option Token) (clock : SourceClock) → token_sound h clock ≡ true → TokenInRange h
token_fits_lem None clock e = tt
token_fits_lem (Some t) clock e = leb-true _ _ (needed (leb t.quantity most_value) (λ f. simp f at e))

pub token_small_lem : (h : Option Token) (clock : SourceClock) → token_sound h clock ≡ true → token_small h ≡ true
token_small_lem None clock e = refl
token_small_lem (Some t) clock e = needed (leb t.quantity most_value) (λ f. simp f at e)
