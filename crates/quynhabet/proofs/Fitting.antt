-- Four numbers that are a slot or a token. Assumes nothing.
use Rattle.std.proofs.Common.{Option, Some, None}
use Prim.Native.Nat.{ℕ, zero, suc, ◌<◌, ◌≤◌}
use mathlib.Core.Path.{◌≡◌, refl, sym, ◌∙◌}
use mathlib.Core.Bool.{Bool, true, false, cond, ◌&&◌, ◌||◌, and-false}
use mathlib.Core.List.{List}
use lib.Dec.{leb, eqb}
use lib.ListN.{get_or}
use borrow.Author.Tests.{leb-true}
use Rattle.ground.specs.Below.{all_below}
use Rattle.ground.specs.Limits.{last_clock, most_stations}
use Rattle.ground.specs.Clocks.{clock_sound}
use Rattle.ground.proofs.Tests.{needed, not_allowed}
use Rattle.ground.proofs.Below.{all_at}
use Rattle.quynhabet.specs.declared.fours.Four.{Four}
use Rattle.quynhabet.specs.Layout.{four_at, four_fits, is_nothing, slot_place, token_place, fits_at, cells_fit, station_fits, message_fits}

pub record FourFits (f : Four) : Type 0 where
  pub present : f.present ≤ 1
  pub source : f.source ≤ last_clock
  pub destination : f.destination ≤ last_clock
  pub held : (eqb f.present 1 || is_nothing f) ≡ true

pub fitting : (f : Four) → four_fits f ≡ true → FourFits f
unfolding four_fits
fitting f e =
    record {
      present = leb-true _ _ (needed (leb f.present 1) (λ t. simp t at e));
      source = leb-true _ _ (needed (clock_sound f.source) (λ t. simp (t, and-false) at e));
      destination = leb-true _ _ (needed (clock_sound f.destination) (λ t. simp (t, and-false) at e));
      held = needed (eqb f.present 1 || is_nothing f) (λ t. simp (t, and-false) at e);
    }

-- two tests at every number below a bound, together and apart
pub both_below : (p q : ℕ → Bool) (n : ℕ) → all_below (λ k. p k && q k) n ≡ (all_below p n && all_below q n)
unfolding all_below
both_below p q zero = refl
both_below p q (suc n) = rw (both_below p q n) (crossed (all_below p n) (p n) (all_below q n) (q n))
  where
    crossed : (a b c d : Bool) → ((a && c) && (b && d)) ≡ ((a && b) && (c && d))
    crossed true b true d = refl
    crossed true true false d = refl
    crossed true false false d = refl
    crossed false b c d = refl

-- what fails at a number below a bound does not hold at every one
pub all_fails : (p : ℕ → Bool) (n k : ℕ) → p k ≡ false → k < n → all_below p n ≡ false
all_fails p n k e h = not_allowed (all_below p n) (λ t. sym (all_at p n k t h) ∙ e)

-- what is read where a test holds, and where it fails
pub read_lem : {A : Type 0} (t : Bool) (x y : A) (o : Option A) → o ≡ Some y → o ≡ cond t (Some x) None → (t ≡ true) × (y ≡ x)
read_lem true x y o a e = (refl, cc)
read_lem false x y o a e = absurd (cc)

pub not_read : {A : Type 0} (t : Bool) (x : A) (o : Option A) → o ≡ None → o ≡ cond t (Some x) None → t ≡ false
not_read true x o a e = absurd (cc)
not_read false x o a e = refl

-- a station's clocks fit, and its slots, and its tokens
pub fits_apart : (numbers : List ℕ) → station_fits numbers
    ≡ (clock_sound (get_or numbers 4 0) && clock_sound (get_or numbers 5 0) && (all_below (fits_at numbers slot_place) most_stations && all_below (fits_at numbers token_place) most_stations))
unfolding station_fits
fits_apart numbers = rw (both_below (fits_at numbers slot_place) (fits_at numbers token_place) most_stations)

-- the parts of a station's numbers that fit, and of a message's
pub record StationFits (numbers : List ℕ) : Type 0 where
  pub source : get_or numbers 4 0 ≤ last_clock
  pub destination : get_or numbers 5 0 ≤ last_clock
  pub cells : all_below (cells_fit numbers) most_stations ≡ true

pub station_fits_lem : (numbers : List ℕ) → station_fits numbers ≡ true → StationFits numbers
unfolding station_fits
station_fits_lem numbers e =
    record {
      source = leb-true _ _ (needed (clock_sound (get_or numbers 4 0)) (λ t. simp t at e));
      destination = leb-true _ _ (needed (clock_sound (get_or numbers 5 0)) (λ t. simp (t, and-false) at e));
      cells = needed (all_below (cells_fit numbers) most_stations) (λ t. simp (t, and-false) at e);
    }

-- each of its slots and tokens fits
pub record CellsFit (numbers : List ℕ) (k : ℕ) : Type 0 where
  pub slot : four_fits (four_at numbers (slot_place k)) ≡ true
  pub token : four_fits (four_at numbers (token_place k)) ≡ true

pub cell_fits : (numbers : List ℕ) (k : ℕ) → all_below (cells_fit numbers) most_stations ≡ true → k < most_stations → CellsFit numbers k
cell_fits numbers k e h =
    let at = all_at (cells_fit numbers) most_stations k e h in
    record {
      slot = needed (four_fits (four_at numbers (slot_place k))) (λ t. simp t at at);
      token = needed (four_fits (four_at numbers (token_place k))) (λ t. simp (t, and-false) at at);
    }

pub slots_fit : (numbers : List ℕ) → station_fits numbers ≡ true → (k : ℕ) → k < most_stations → four_fits (four_at numbers (slot_place k)) ≡ true
slots_fit numbers e k h = (cell_fits numbers k (station_fits_lem numbers e).cells h).slot

pub tokens_fit : (numbers : List ℕ) → station_fits numbers ≡ true → (k : ℕ) → k < most_stations → four_fits (four_at numbers (token_place k)) ≡ true
tokens_fit numbers e k h = (cell_fits numbers k (station_fits_lem numbers e).cells h).token

pub record MessageFits (numbers : List ℕ) : Type 0 where
  pub source : get_or numbers 3 0 ≤ last_clock
  pub destination : get_or numbers 4 0 ≤ last_clock
  pub slot : four_fits (four_at numbers 5) ≡ true
  pub token : four_fits (four_at numbers 9) ≡ true

pub message_fits_lem : (numbers : List ℕ) → message_fits numbers ≡ true → MessageFits numbers
unfolding message_fits
message_fits_lem numbers e =
    record {
      source = leb-true _ _ (needed (clock_sound (get_or numbers 3 0)) (λ t. simp t at e));
      destination = leb-true _ _ (needed (clock_sound (get_or numbers 4 0)) (λ t. simp (t, and-false) at e));
      slot = needed (four_fits (four_at numbers 5)) (λ t. simp (t, and-false) at e);
      token = needed (four_fits (four_at numbers 9)) (λ t. simp (t, and-false) at e);
    }
