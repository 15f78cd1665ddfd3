-- Where a station's slots and tokens stand in its numbers. Assumes nothing.
use Prim.Native.Nat.{ℕ, ◌+◌, ◌*◌, ◌<◌}
use mathlib.Core.Path.{◌≡◌, refl, ap, ◌∙◌}
use mathlib.Core.List.{List, ◌++◌}
use native.Mathlib.Omega.{arith}
use Rattle.rules.specs.declared.held.Token.{Token}
use Rattle.rules.specs.declared.held.Slot.{Slot}
use lib.ListN.{get_or, get_or-append}
use lib.Seq.{get_or-append-add}
use Rattle.station.specs.declared.held.PeerCell.{PeerCell}
use Rattle.station.specs.declared.station.Station.{Station}
use Rattle.station.specs.Held.{no_slot, no_token, slot_for, token_for}
use Rattle.ground.specs.Limits.{most_stations}
use Rattle.quynhabet.specs.Layout.{four_at, slot_four, token_four, slot_place, token_place, slot_numbers_at, token_numbers_at, slots_numbers, tokens_numbers, first_numbers, numbers_of, slot_of, token_of, slot_cell, token_cell, station_of}
use Rattle.ground.proofs.InTurn.{at_ones, at_fours}
use Rattle.quynhabet.proofs.Lengths.{length_front}
use Rattle.quynhabet.proofs.FoursBack.{four_at_lem}

module _ (s : Station) (k : ℕ) (h : k < most_stations) where
  pub slot_number : (j i : ℕ) → j < 4 → 6 + (4 * k + j) ≡ i → get_or (numbers_of s) i 0 ≡ get_or (slot_numbers_at s k) j 0
  unfolding numbers_of
  slot_number j i g e =
      let front = length_front s in
      rw (← e)
      (get_or-append (first_numbers s ++ slots_numbers s) (tokens_numbers s) 0 (6 + (4 * k + j)) (omega arith)
      ∙ get_or-append-add (first_numbers s) (slots_numbers s) (4 * k + j) 0
      ∙ at_fours (slot_numbers_at s) (λ n. refl) most_stations k j 0 h g)

  pub token_number : (j i : ℕ) → j < 4 → 70 + (4 * k + j) ≡ i → get_or (numbers_of s) i 0 ≡ get_or (token_numbers_at s k) j 0
  unfolding numbers_of
  token_number j i g e =
      rw (← e, ← length_front s)
      (get_or-append-add (first_numbers s ++ slots_numbers s) (tokens_numbers s) (4 * k + j) 0
      ∙ at_fours (token_numbers_at s) (λ n. refl) most_stations k j 0 h g)

  pub slot_four_at : four_at (numbers_of s) (slot_place k) ≡ slot_four (slot_for s k)
  slot_four_at = four_at_lem (numbers_of s) (slot_place k) (slot_four (slot_for s k)) (λ j g. slot_number j (slot_place k + j) g (omega arith))

  pub token_four_at : four_at (numbers_of s) (token_place k) ≡ token_four (token_for s k)
  token_four_at = four_at_lem (numbers_of s) (token_place k) (token_four (token_for s k)) (λ j g. token_number j (token_place k + j) g (omega arith))

-- and where numbers have a station's slots and tokens
module _ (numbers : List ℕ) (k : ℕ) (h : k < most_stations) where
  pub slot_read : slot_for (station_of numbers) k ≡ slot_of (four_at numbers (slot_place k))
  unfolding station_of
  slot_read = ap (λ (c : PeerCell Slot). c.held) (at_ones (slot_cell numbers) most_stations k no_slot h)

  pub token_read : token_for (station_of numbers) k ≡ token_of (four_at numbers (token_place k))
  unfolding station_of
  token_read = ap (λ (c : PeerCell Token). c.held) (at_ones (token_cell numbers) most_stations k no_token h)
