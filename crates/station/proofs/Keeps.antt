-- Every step of a sound station leaves a sound station that is still the same one of its table, and
-- the message that a sound station has for another is sound. Assumes nothing.
use Prim.Native.Nat.{ℕ, ◌+◌, ◌-◌, ◌<◌, ◌≤◌}
use mathlib.Core.Path.{◌≡◌, refl, sym, ◌∙◌}
use mathlib.Core.Bool.{true, false, not, or-true}
use native.Mathlib.Omega.{arith}
use lib.Dec.{ltb}
use lib.ListN.{get_or-replicate}
use borrow.Author.Tests.{lt-ltb, le-leb, ne_eqb, not-false}
use Rattle.station.specs.declared.station.Station.{Station}
use Rattle.rules.specs.declared.message.Message.{Message}
use Rattle.station.specs.declared.outcome.Outcome.{Outcome}
use Rattle.ground.specs.Limits.{most_stations, most_intake, most_value}
use Rattle.station.specs.Held.{no_slot, no_token}
use Rattle.station.specs.Sound.{is_peer, cells_sound, count_sound, station_sound, message_sound}
use Rattle.station.specs.Outcome.{refused, answered}
use Rattle.rules.specs.Message.{no_message}
use Rattle.station.specs.Steps.{blank, put_stock, message_for, fresh_answer, add_answer, draw_answer, show_answer, receive_answer, fresh_of, add_of, draw_of, receive_of}
use Rattle.ground.proofs.Below.{all_from}
use Rattle.station.proofs.Parts.{station_parts, station_whole, message_parts}
use Rattle.ground.proofs.Refusing.{passed}
use Rattle.ground.proofs.Choices.{either_way}
use Rattle.station.proofs.Answering.{added, shown, received}
use Rattle.station.proofs.KeepsSide.{take_keeps}
use Rattle.station.proofs.KeepsCells.{side_sound, put_sound}

-- what holds of the station lent, and of the one that a step done leaves, holds after the step
after : (P : Station → Type 0) (n : ℕ) (s : Station) (d : Outcome) → P s → (n ≡ 0 → P d.station) → P (answered n s d).station
after P n s d p f = either_way (λ (o : Outcome). P o.station) n d (refused n s) f p

-- another value and intake in range leave the rest as it was
pub stock_sound_lem : (s : Station) (value intake : ℕ) → station_sound s ≡ true → value ≤ most_value → intake ≤ most_intake → station_sound (put_stock s value intake) ≡ true
unfolding station_sound
stock_sound_lem s value intake e v i =
    let w = station_parts s e in
    rw (le-leb _ _ v, le-leb _ _ i) (rw (le-leb _ _ w.value, le-leb _ _ w.intake) at e)

-- a place where nothing is held is sound for every station
blank_cells : (number count k : ℕ) → k < most_stations → cells_sound (blank number count) k ≡ true
blank_cells number count k h = rw (get_or-replicate most_stations k no_slot no_slot h, get_or-replicate most_stations k no_token no_token h, or-true)

pub fresh_sound : (number count : ℕ) → fresh_answer number count ≡ 0 → station_sound (fresh_of number count).station ≡ true
unfolding fresh_of station_sound
fresh_sound number count e =
    let one = passed (not (count_sound count)) _ e in
    let two = passed (not (ltb number count)) _ one.1 in
    rw (e, not-false (count_sound count) one.0, not-false (ltb number count) two.0, all_from _ most_stations (blank_cells number count))

pub add_keeps : (s : Station) (amount : ℕ) → station_sound s ≡ true → station_sound (add_of s amount).station ≡ true
unfolding add_of
add_keeps s amount e =
    after (λ (n : Station). station_sound n ≡ true) (add_answer s amount) s _ e
    (λ z. let a = added s amount z in stock_sound_lem s (s.value + amount) (s.intake + amount) e a.value a.intake)

pub draw_keeps : (s : Station) (amount : ℕ) → station_sound s ≡ true → station_sound (draw_of s amount).station ≡ true
unfolding draw_of
draw_keeps s amount e =
    let w = station_parts s e in
    after (λ (n : Station). station_sound n ≡ true) (draw_answer s amount) s _ e
    (λ z. stock_sound_lem s (s.value - amount) s.intake e (omega arith) w.intake)

pub receive_keeps : (s : Station) (m : Message) → station_sound s ≡ true → station_sound (receive_of s m).station ≡ true
unfolding receive_of
receive_keeps s m e =
    let w = station_parts s e in
    let k = m.from in
    after (λ (n : Station). station_sound n ≡ true) (receive_answer s m) s _ e
    (λ z.
    let r = received s m z in
    let shows = message_parts m r.message in
    let peer : is_peer s k ≡ true = rw (ne_eqb k s.number (λ f. shows.other (f ∙ sym r.to)), lt-ltb k s.count r.from) in
    station_whole _ (put_sound s k w peer (take_keeps m (side_sound s k w (omega arith)) shows r.room)))

-- the message that a sound station has for another station of the table
pub message_sound_lem : (s : Station) (to : ℕ) → show_answer s to ≡ 0 → message_sound (message_for s to) ≡ true
unfolding message_sound
message_sound_lem s to e =
    let p = shown s to e in
    let w = station_parts s p.sound in
    let below : to < most_stations = omega arith in
    rw (
      le-leb s.number 15 (omega arith),
      le-leb to 15 (omega arith),
      ne_eqb s.number to (λ f. p.other (sym f)),
      le-leb _ _ w.value,
      le-leb _ _ w.source,
      le-leb _ _ w.destination,
      w.slots to below,
      w.tokens to below,
    )

pub empty_unsound : message_sound no_message ≡ false
unfolding message_sound
empty_unsound = refl

pub add_seat : (s : Station) (amount : ℕ) → ((add_of s amount).station.number ≡ s.number) × ((add_of s amount).station.count ≡ s.count)
unfolding add_of
add_seat s amount = after (λ (n : Station). (n.number ≡ s.number) × (n.count ≡ s.count)) (add_answer s amount) s _ (refl, refl) (λ z. (refl, refl))

pub draw_seat : (s : Station) (amount : ℕ) → ((draw_of s amount).station.number ≡ s.number) × ((draw_of s amount).station.count ≡ s.count)
unfolding draw_of
draw_seat s amount = after (λ (n : Station). (n.number ≡ s.number) × (n.count ≡ s.count)) (draw_answer s amount) s _ (refl, refl) (λ z. (refl, refl))

pub receive_seat : (s : Station) (m : Message) → ((receive_of s m).station.number ≡ s.number) × ((receive_of s m).station.count ≡ s.count)
    × ((receive_of s m).station.intake ≡ s.intake)
unfolding receive_of
receive_seat s m =
    after (λ (n : Station). (n.number ≡ s.number) × (n.count ≡ s.count) × (n.intake ≡ s.intake)) (receive_answer s m) s _ (refl, refl, refl)
    (λ z. (refl, refl, refl))
