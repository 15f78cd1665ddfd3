-- The numbers that cross to another language, by version: a station is 134 numbers, a message is
-- 13.
use Rattle.std.specs.Prelude.{ℕ, ◌+◌, ◌*◌, Bool, cond, ◌&&◌, ◌||◌, List, [], ◌∷◌, ◌++◌, leb, eqb, get_or, Option, Some, None}
use Rattle.rules.specs.declared.held.Token.{Token}
use Rattle.rules.specs.declared.held.Slot.{Slot}
use Rattle.rules.specs.declared.held.Terms.{Terms}
use Rattle.ground.specs.InTurn.{in_turn}
use Rattle.station.specs.declared.held.PeerCell.{PeerCell}
use Rattle.rules.specs.Terms.{slot_terms, slot_on, token_terms, token_on}
use Rattle.rules.specs.declared.message.Message.{Message}
use Rattle.station.specs.declared.station.Station.{Station}
use Rattle.ground.specs.Below.{all_below}
use Rattle.ground.specs.Limits.{most_stations}
use Rattle.ground.specs.Clocks.{clock_sound}
use Rattle.quynhabet.specs.declared.fours.Four.{Four}

-- goes up by 1 where what is said here changes
abbrev pub layout_version : ℕ
layout_version = 1

-- a slot or a token is present (0 or 1), source clock, destination clock, quantity
abbrev pub four_numbers : Four → List ℕ
four_numbers f = f.present ∷ f.source ∷ f.destination ∷ f.quantity ∷ []

abbrev pub four_at : List ℕ → ℕ → Four
four_at numbers at =
    record { present = get_or numbers at 0; source = get_or numbers (at + 1) 0; destination = get_or numbers (at + 2) 0; quantity = get_or numbers (at + 3) 0 }

-- what is not held is four zeros
abbrev pub nothing : Four
nothing = record { present = 0; source = 0; destination = 0; quantity = 0 }

-- what is held, told by its terms, and what is held on terms
abbrev pub four_of : {H : Type 0} → (H → Terms) → Option H → Four
four_of terms None = nothing
four_of terms (Some h) = record { present = 1; source = (terms h).source.0; destination = (terms h).destination.0; quantity = (terms h).quantity }

abbrev pub held_of : {H : Type 0} → (Terms → H) → Four → Option H
held_of on f =
    cond (eqb f.present 0) None
    (Some (on (record { source = record { 0 = f.source }; destination = record { 0 = f.destination }; quantity = f.quantity })))

abbrev pub slot_four : Option Slot → Four
slot_four h = four_of slot_terms h

abbrev pub token_four : Option Token → Four
token_four h = four_of token_terms h

abbrev pub slot_of : Four → Option Slot
slot_of f = held_of slot_on f

abbrev pub token_of : Four → Option Token
token_of f = held_of token_on f

-- no number is too wide for its field, and what is not held is four zeros
abbrev pub is_nothing : Four → Bool
is_nothing f = eqb f.source 0 && eqb f.destination 0 && eqb f.quantity 0

unfoldable pub four_fits : Four → Bool
four_fits f = leb f.present 1 && (clock_sound f.source && clock_sound f.destination) && (eqb f.present 1 || is_nothing f)

-- A station: number, count, value, intake, source clock, destination clock; then the slots for
-- peers 0 to 15, then the tokens.
abbrev pub slot_place : ℕ → ℕ
slot_place k = 6 + 4 * k

abbrev pub token_place : ℕ → ℕ
token_place k = 70 + 4 * k

-- the fours for peers 0 to 15 from a position on
abbrev pub place_from : ℕ → ℕ → ℕ
place_from at k = at + 4 * k

-- what stands for a peer, and for the peers one after the other
abbrev pub cell_numbers : {H : Type 0} → (H → Terms) → List (PeerCell H) → ℕ → List ℕ
cell_numbers terms cells k = four_numbers (four_of terms (get_or cells k (record { held = None })).held)

abbrev pub cells_numbers : {H : Type 0} → (H → Terms) → List (PeerCell H) → List ℕ
cells_numbers terms cells = in_turn (cell_numbers terms cells) most_stations

abbrev pub slot_numbers_at : Station → ℕ → List ℕ
slot_numbers_at s k = cell_numbers slot_terms s.slots k

abbrev pub token_numbers_at : Station → ℕ → List ℕ
token_numbers_at s k = cell_numbers token_terms s.tokens k

abbrev pub slots_numbers : Station → List ℕ
slots_numbers s = cells_numbers slot_terms s.slots

abbrev pub tokens_numbers : Station → List ℕ
tokens_numbers s = cells_numbers token_terms s.tokens

abbrev pub first_numbers : Station → List ℕ
first_numbers s = s.number ∷ s.count ∷ s.value ∷ s.intake ∷ s.source.0 ∷ s.destination.0 ∷ []

unfoldable pub numbers_of : Station → List ℕ
numbers_of s = first_numbers s ++ slots_numbers s ++ tokens_numbers s

-- the station that numbers are
abbrev pub cell_at : {H : Type 0} → (Terms → H) → List ℕ → ℕ → PeerCell H
cell_at on numbers at = record { held = held_of on (four_at numbers at) }

abbrev pub cells_of : {H : Type 0} → (Terms → H) → List ℕ → (ℕ → ℕ) → List (PeerCell H)
cells_of on numbers place = in_turn (λ k. cell_at on numbers (place k) ∷ []) most_stations

abbrev pub slot_cell : List ℕ → ℕ → PeerCell Slot
slot_cell numbers k = cell_at slot_on numbers (slot_place k)

abbrev pub token_cell : List ℕ → ℕ → PeerCell Token
token_cell numbers k = cell_at token_on numbers (token_place k)

abbrev pub slots_of : List ℕ → List (PeerCell Slot)
slots_of numbers = cells_of slot_on numbers slot_place

abbrev pub tokens_of : List ℕ → List (PeerCell Token)
tokens_of numbers = cells_of token_on numbers token_place

unfoldable pub station_of : List ℕ → Station
station_of numbers =
    record {
      number = get_or numbers 0 0;
      count = get_or numbers 1 0;
      value = get_or numbers 2 0;
      intake = get_or numbers 3 0;
      source = record { 0 = get_or numbers 4 0 };
      destination = record { 0 = get_or numbers 5 0 };
      slots = slots_of numbers;
      tokens = tokens_of numbers;
    }

-- where numbers are a station
abbrev pub fits_at : List ℕ → (ℕ → ℕ) → ℕ → Bool
fits_at numbers place k = four_fits (four_at numbers (place k))

abbrev pub cells_fit : List ℕ → ℕ → Bool
cells_fit numbers k = fits_at numbers slot_place k && fits_at numbers token_place k

unfoldable pub station_fits : List ℕ → Bool
station_fits numbers = clock_sound (get_or numbers 4 0) && clock_sound (get_or numbers 5 0) && all_below (cells_fit numbers) most_stations

-- A message: from, to, value, source clock, destination clock, the slot, the token.
unfoldable pub message_numbers : Message → List ℕ
message_numbers m =
    (m.from ∷ m.to ∷ m.value ∷ m.source.0 ∷ m.destination.0 ∷ []) ++ four_numbers (slot_four m.slot) ++ four_numbers (token_four m.token)

unfoldable pub message_of : List ℕ → Message
message_of numbers =
    record {
      from = get_or numbers 0 0;
      to = get_or numbers 1 0;
      value = get_or numbers 2 0;
      source = record { 0 = get_or numbers 3 0 };
      destination = record { 0 = get_or numbers 4 0 };
      slot = slot_of (four_at numbers 5);
      token = token_of (four_at numbers 9);
    }

unfoldable pub message_fits : List ℕ → Bool
message_fits numbers = clock_sound (get_or numbers 3 0) && clock_sound (get_or numbers 4 0) && (four_fits (four_at numbers 5) && four_fits (four_at numbers 9))
