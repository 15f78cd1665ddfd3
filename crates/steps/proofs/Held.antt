-- What the stations hold, in one row: a cell of it is what one station holds for another, and stays
-- so when a station is put anew. No code keeps such a row; what a step does to it is said in Row.
-- Assumes nothing.
use Rattle.std.proofs.Common.{None}
use Prim.Native.Nat.{ℕ, zero, suc, ◌+◌, ◌*◌, ◌/◌, ◌%◌, ◌<◌}
use mathlib.Core.Path.{◌≡◌, refl, sym, ◌∙◌, ap}
use mathlib.Core.Bool.{Bool, true, false}
use mathlib.Core.List.{List}
use native.Mathlib.Nat.{add-zero}
use native.Mathlib.Omega.{arith}
use Rattle.rules.specs.declared.held.Token.{Token}
use Rattle.rules.specs.declared.held.Slot.{Slot}
use lib.Dec.{eqb}
use lib.ListN.{length, get_or, set, length-set}
use lib.Seq.{ext_get_or, get_or-set_same, get_or-set_other}
use borrow.Author.Tests.{eqb-true, eqb-false}
use Rattle.rules.specs.declared.side.Side.{Side}
use Rattle.ground.specs.Limits.{most_stations}
use Rattle.ground.proofs.Stores.{stored}
use Rattle.station.specs.declared.station.Station.{Station}
use Rattle.station.specs.declared.held.PeerCell.{PeerCell}
use Rattle.station.specs.Held.{no_slot, no_token, slot_for, token_for}
use Rattle.station.specs.Side.{put_side}
use Rattle.steps.specs.declared.planning.Change.{Change}
use Rattle.steps.specs.declared.planning.Change.TheVariants.{AtSide}
use Rattle.table.specs.Table.{station_past_end, station_in}
use Rattle.steps.specs.Cells.{Cells, cells_for, each_from, cell_at, cells_of}

-- cells that hold nothing
abbrev pub no_cells : Cells
no_cells = record { slot = None; token = None }

module _ {A : Type 0} where
  pub each_length : (f : ℕ → A) (n i : ℕ) → length (each_from f n i) ≡ n
  unfolding each_from
  each_length f zero i = refl
  each_length f (suc n) i = ap suc (each_length f n (i + 1))

  pub each_at : (f : ℕ → A) (n i p : ℕ) (d : A) → p < n → get_or (each_from f n i) p d ≡ f (i + p)
  unfolding each_from
  each_at f zero i p d h = absurd (omega arith)
  each_at f (suc n) i zero d h = rw add-zero
  each_at f (suc n) i (suc p) d h = each_at f n (i + 1) p d (omega arith) ∙ ap f (omega arith)

  pub each_same : (f g : ℕ → A) → ((p : ℕ) → f p ≡ g p) → (n i : ℕ) → each_from f n i ≡ each_from g n i
  unfolding each_from
  each_same f g e zero i = refl
  each_same f g e (suc n) i = rw (e i, each_same f g e n (i + 1))

pub cells_length : (stations : List Station) → length (cells_of stations) ≡ 256
cells_length stations = each_length (cell_at stations) 256 0

pub cell_there : (stations : List Station) (n : ℕ) → n < 256 → get_or (cells_of stations) n no_cells ≡ cell_at stations n
cell_there stations n h = each_at (cell_at stations) 256 0 n no_cells h ∙ ap (cell_at stations) (omega arith)

-- what station k holds for station j
pub cells_at : (stations : List Station) (k j : ℕ) → k < most_stations → j < most_stations → get_or (cells_of stations) (16 * k + j) no_cells ≡ cells_for (station_in stations k) j
cells_at stations k j h g =
    let q : (16 * k + j) / 16 ≡ k = omega arith in
    let r : (16 * k + j) % 16 ≡ j = omega arith in
    cell_there stations (16 * k + j) (omega arith) ∙ rw (q, r)

-- a station that holds what it held leaves the row
pub cells_same : (stations : List Station) (k : ℕ) (s : Station) → ((i : ℕ) → cells_for s i ≡ cells_for (station_in stations k) i) → cells_of (set stations k s) ≡ cells_of stations
cells_same stations k s e = each_same (cell_at (set stations k s)) (cell_at stations) (λ p. at (p / 16) (p % 16)) 256 0
  where
    at : (q i : ℕ) → cells_for (station_in (set stations k s) q) i ≡ cells_for (station_in stations q) i
    at q i = stored (λ (v : Station). cells_for v i ≡ cells_for (station_in stations q) i) stations k q station_past_end (λ f. rw f (e i)) refl

-- a station that holds something else for station j alone changes one of the row
cells_put : (stations : List Station) (k j : ℕ) (s : Station) → k < most_stations → j < most_stations
    → ((i : ℕ) → (i ≡ j → ⊥) → cells_for s i ≡ cells_for (station_in stations k) i) → let next = set stations k s in
    set (cells_of stations) (16 * k + j) (cells_for (station_in next k) j) ≡ cells_of next
cells_put stations k j s h g e =
    ext_get_or no_cells _ (cells_of next) (length-set (cells_of stations) at new ∙ cells_length stations ∙ sym (cells_length next))
    (λ p l. by p (rw (length-set (cells_of stations) at new, cells_length stations) at l) (eqb p at) refl)
  where
    next : List Station
    next = set stations k s

    at : ℕ
    at = 16 * k + j

    new : Cells
    new = cells_for (station_in next k) j

    by : (p : ℕ) → p < 256 → (b : Bool) → eqb p at ≡ b → get_or (set (cells_of stations) at new) p no_cells ≡ get_or (cells_of next) p no_cells
    by p l true z =
        let same : p ≡ 16 * k + j = eqb-true p at z in
        rw same (get_or-set_same (cells_of stations) at new no_cells (rw (cells_length stations) (omega arith)) ∙ sym (cells_at next k j h g))
    by p l false z =
        get_or-set_other (cells_of stations) at p new no_cells (eqb-false p at z) ∙ cell_there stations p l
        ∙ stored (λ (v : Station). cell_at stations p ≡ cells_for v (p % 16)) stations k (p / 16) station_past_end (λ f. rw f (sym (e (p % 16) (λ r. eqb-false p at z (omega arith))))) refl
        ∙ sym (cell_there next p l)

-- another side to station j is seen by station j alone
side_elsewhere : (s : Station) (j : ℕ) (x : Side) (i : ℕ) → (i ≡ j → ⊥) → cells_for (put_side s j x) i ≡ cells_for s i
side_elsewhere s j x i f =
    ap (λ (c : PeerCell Slot). record { slot = c.held; token = token_for (put_side s j x) i }) (get_or-set_other s.slots j i (record { held = x.slot }) no_slot f)
    ∙ ap (λ (c : PeerCell Token). record { slot = slot_for s i; token = c.held }) (get_or-set_other s.tokens j i (record { held = x.token }) no_token f)

-- a station put back with another side to station j
pub side_put : (stations : List Station) (k j : ℕ) {change : Change} {x : Side} (s : Station) → k < most_stations → j < most_stations → change ≡ AtSide x
    → s ≡ put_side (station_in stations k) j x → let next = set stations k s in
    set (cells_of stations) (16 * k + j) (cells_for (station_in next k) j) ≡ cells_of next
side_put stations k j {x = x} s h g c e = cells_put stations k j s h g (λ i f. rw e (side_elsewhere (station_in stations k) j x i f))
