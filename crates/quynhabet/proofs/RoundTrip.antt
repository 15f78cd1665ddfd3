-- Nothing is lost between a station and its numbers, nor between a message and its numbers. Assumes
-- nothing.
use Prim.Native.Nat.{ℕ, zero, suc, ◌+◌, ◌*◌, ◌-◌, ◌/◌, ◌%◌, ◌<◌, ◌≤◌}
use mathlib.Core.Path.{◌≡◌, refl, ap, sym, ◌∙◌}
use mathlib.Core.Bool.{Bool, true, false}
use mathlib.Core.List.{List, [], ◌∷◌, ◌++◌}
use native.Mathlib.Nat.{div-add-mod, mod-lt}
use native.Mathlib.Omega.{arith}
use lib.Dec.{ltb}
use lib.ListN.{length, get_or}
use lib.Seq.{ext_get_or}
use borrow.Author.Tests.{ltb-true, ltb-false, le-leb}
use Rattle.rules.specs.declared.message.Message.{Message}
use Rattle.station.specs.declared.station.Station.{Station}
use Rattle.station.specs.Held.{no_slot, no_token, slot_for, token_for}
use Rattle.ground.specs.Limits.{most_stations}
use Rattle.station.specs.Sound.{station_sound, message_sound}
use Rattle.ground.proofs.Below.{all_from}
use Rattle.station.proofs.Parts.{station_parts, message_parts}
use Rattle.quynhabet.specs.declared.fours.Four.{Four}
use Rattle.ground.specs.InTurn.{in_turn}
use Rattle.quynhabet.specs.Layout.{four_numbers, four_at, slot_four, token_four, slot_of, token_of, slot_place, token_place, slot_cell, token_cell, cells_fit, numbers_of, station_of, station_fits, message_numbers, message_of, message_fits}
use Rattle.ground.proofs.InTurn.{ones_list}
use Rattle.quynhabet.proofs.Fitting.{slots_fit, tokens_fit, message_fits_lem}
use Rattle.quynhabet.proofs.FoursBack.{at_four, slot_back, token_back, slot_four_back, token_four_back, slot_fits_lem, token_fits_lem}
use Rattle.quynhabet.proofs.Lengths.{length_numbers}
use Rattle.quynhabet.proofs.Places.{slot_number, token_number, slot_four_at, token_four_at, slot_read, token_read}

-- A station that has its 16 slots and 16 tokens is read back from its numbers.
same_station_lem : (s t : Station) → s.number ≡ t.number → s.count ≡ t.count → s.value ≡ t.value → s.intake ≡ t.intake → s.source ≡ t.source
    → s.destination ≡ t.destination → s.slots ≡ t.slots → s.tokens ≡ t.tokens → s ≡ t
same_station_lem s t n c v a b d l k =
    λ i. record { number = n i; count = c i; value = v i; intake = a i; source = b i; destination = d i; slots = l i; tokens = k i }

pub station_back : (s : Station) → length s.slots ≡ most_stations → length s.tokens ≡ most_stations → station_of (numbers_of s) ≡ s
unfolding station_of numbers_of
station_back s e f =
    same_station_lem (station_of (numbers_of s)) s refl refl refl refl refl refl
    (ones_list (slot_cell (numbers_of s)) no_slot s.slots most_stations e
    (λ k h. let held = ap slot_of (slot_four_at s k h) ∙ slot_back (slot_for s k) in λ i. record { held = held i }))
    (ones_list (token_cell (numbers_of s)) no_token s.tokens most_stations f
    (λ k h. let held = ap token_of (token_four_at s k h) ∙ token_back (token_for s k) in λ i. record { held = held i }))

-- The numbers of the station that fitting numbers are: those numbers. So loading and storing
-- changes nothing.
module _ (numbers : List ℕ) (fits : station_fits numbers ≡ true) where
  in_slots : (i k j : ℕ) → k < most_stations → j < 4 → 6 + (4 * k + j) ≡ i → get_or (numbers_of (station_of numbers)) i 0 ≡ get_or numbers i 0
  in_slots i k j h g e =
      let four = ap slot_four (slot_read numbers k h) ∙ slot_four_back (four_at numbers (slot_place k)) (slots_fit numbers fits k h) in
      let same : slot_place k + j ≡ i = omega arith in
      slot_number (station_of numbers) k h j i g e ∙ ap (λ (f : Four). get_or (four_numbers f) j 0) four ∙ at_four numbers (slot_place k) j g ∙ ap (λ (n : ℕ). get_or numbers n 0) same

  in_tokens : (i k j : ℕ) → k < most_stations → j < 4 → 70 + (4 * k + j) ≡ i → get_or (numbers_of (station_of numbers)) i 0 ≡ get_or numbers i 0
  in_tokens i k j h g e =
      let four = ap token_four (token_read numbers k h) ∙ token_four_back (four_at numbers (token_place k)) (tokens_fit numbers fits k h) in
      let same : token_place k + j ≡ i = omega arith in
      token_number (station_of numbers) k h j i g e ∙ ap (λ (f : Four). get_or (four_numbers f) j 0) four ∙ at_four numbers (token_place k) j g ∙ ap (λ (n : ℕ). get_or numbers n 0) same

  in_cells : (i : ℕ) (t : Bool) → ltb i 70 ≡ t → 6 ≤ i → i < 134 → get_or (numbers_of (station_of numbers)) i 0 ≡ get_or numbers i 0
  in_cells i true e l h =
      let parts = div-add-mod (i - 6) 4 in
      let rest : (i - 6) % 4 < 4 = mod-lt (i - 6) (omega arith) in
      let below = ltb-true i 70 e in
      in_slots i ((i - 6) / 4) ((i - 6) % 4) (omega arith) rest (omega arith)
  in_cells i false e l h =
      let parts = div-add-mod (i - 70) 4 in
      let rest : (i - 70) % 4 < 4 = mod-lt (i - 70) (omega arith) in
      let above = ltb-false i 70 e in
      in_tokens i ((i - 70) / 4) ((i - 70) % 4) (omega arith) rest (omega arith)

  each_number : (i : ℕ) → i < 134 → get_or (numbers_of (station_of numbers)) i 0 ≡ get_or numbers i 0
  unfolding numbers_of station_of
  each_number zero h = refl
  each_number (suc zero) h = refl
  each_number (suc (suc zero)) h = refl
  each_number (suc (suc (suc zero))) h = refl
  each_number (suc (suc (suc (suc zero)))) h = refl
  each_number (suc (suc (suc (suc (suc zero))))) h = refl
  each_number (suc (suc (suc (suc (suc (suc i)))))) h = in_cells (suc (suc (suc (suc (suc (suc i)))))) (ltb (suc (suc (suc (suc (suc (suc i)))))) 70) refl (omega arith) h

  pub numbers_back : length numbers ≡ 134 → numbers_of (station_of numbers) ≡ numbers
  numbers_back e =
      let whole = length_numbers (station_of numbers) in
      ext_get_or 0 (numbers_of (station_of numbers)) numbers (whole ∙ sym e) (λ i h. each_number i (rw whole at h))

-- The numbers of a sound station fit.
pub numbers_fit : (s : Station) → station_sound s ≡ true → station_fits (numbers_of s) ≡ true
unfolding station_fits numbers_of
numbers_fit s e =
    let w = station_parts s e in
    let all =
    all_from (cells_fit (numbers_of s)) most_stations
    (λ k h.
    rw (
      slot_four_at s k h,
      token_four_at s k h,
      slot_fits_lem (slot_for s k) s.destination (w.slots k h) w.destination,
      token_fits_lem (token_for s k) s.source (w.tokens k h) w.source,
    )) in
    rw (le-leb _ _ w.source, le-leb _ _ w.destination, all)

-- The same for a message.
same_message : (m n : Message) → m.from ≡ n.from → m.to ≡ n.to → m.value ≡ n.value → m.source ≡ n.source → m.destination ≡ n.destination
    → m.slot ≡ n.slot → m.token ≡ n.token → m ≡ n
same_message m n f t v s d l k = λ i. record { from = f i; to = t i; value = v i; source = s i; destination = d i; slot = l i; token = k i }

pub message_back : (m : Message) → message_of (message_numbers m) ≡ m
unfolding message_of message_numbers
message_back m = same_message (message_of (message_numbers m)) m refl refl refl refl refl (slot_back m.slot) (token_back m.token)

pub message_numbers_back : (numbers : List ℕ) → message_fits numbers ≡ true → length numbers ≡ 13 → message_numbers (message_of numbers) ≡ numbers
unfolding message_of message_numbers in_turn
message_numbers_back numbers fits e =
    let w = message_fits_lem numbers fits in
    let n : ℕ → ℕ = λ k. get_or numbers k 0 in
    let five : List ℕ = n 0 ∷ n 1 ∷ n 2 ∷ n 3 ∷ n 4 ∷ [] in
    ap (λ (f : Four). five ++ four_numbers f ++ four_numbers (token_four (token_of (four_at numbers 9)))) (slot_four_back (four_at numbers 5) w.slot)
    ∙ ap (λ (f : Four). five ++ four_numbers (four_at numbers 5) ++ four_numbers f) (token_four_back (four_at numbers 9) w.token)
    ∙ ones_list n 0 numbers 13 e (λ k h. refl)

pub message_numbers_fit : (m : Message) → message_sound m ≡ true → message_fits (message_numbers m) ≡ true
unfolding message_fits message_numbers
message_numbers_fit m e =
    let w = message_parts m e in
    rw (
      le-leb _ _ w.source,
      le-leb _ _ w.destination,
      slot_fits_lem m.slot m.destination w.slot w.destination,
      token_fits_lem m.token m.source w.token w.source,
    )
