-- The row of what the stations hold for each other, and the steps of a table: a step looks at one of
-- the row, and changes that one or none. Assumes nothing.
use Rattle.std.proofs.Common.{Option}
use Prim.Native.Nat.{ℕ, ◌+◌, ◌*◌, ◌<◌}
use mathlib.Core.Path.{◌≡◌, refl, sym, ◌∙◌, ap}
use mathlib.Core.Bool.{true}
use lib.ListN.{get_or, set}
use Rattle.ground.specs.Limits.{most_stations}
use Rattle.ground.proofs.Stores.{set_same, stored}
use Rattle.rules.specs.declared.side.Side.{Side}
use Rattle.station.specs.Side.{side_for}
use Rattle.station.specs.Steps.{put_stock}
use Rattle.steps.specs.declared.asked.Step.{Step}
use Rattle.steps.specs.declared.planning.Change.{Change}
use Rattle.steps.specs.declared.planning.Change.TheVariants.{Nothing, AtStock, AtSide, AtPlace}
use Rattle.table.specs.declared.stepped.Stepped.{Stepped}
use Rattle.table.specs.declared.table.Table.{Table}
use Rattle.pool.specs.Pool.{most_places}
use Rattle.table.specs.Table.{station_past_end, station_at, waiting_at}
use Rattle.table.specs.Sound.{table_sound}
use Rattle.steps.specs.Cells.{Cells, cells_for, cells_of}
use Rattle.steps.specs.Looking.{below, place_looked_at, seat_looked_at, flags_of, free_for}
use Rattle.steps.specs.Planning.{plan_at, changed}
use Rattle.steps.specs.Running.{asked_step}
use Rattle.steps.proofs.Held.{no_cells, cells_at, cells_same, side_put}
use Rattle.steps.proofs.Looks.{seat_there}
use Rattle.steps.proofs.InPlace.{stepped, placed}

module _ (t : Table) (k j : ℕ) (h : k < most_stations) (g : j < most_stations) where
  -- the slot and the token that a step looks at are one of the row
  pub looked_at_one : let x = side_for (station_at t k) j in get_or (cells_of t.stations) (16 * k + j) no_cells ≡ record { slot = x.slot; token = x.token }
  looked_at_one = cells_at t.stations k j h g

  one_again : (v : Cells) → v ≡ cells_for (station_at t k) j → set (cells_of t.stations) (16 * k + j) v ≡ cells_of t.stations
  one_again v e = rw (e, ← cells_at t.stations k j h g) (set_same (cells_of t.stations) (16 * k + j) no_cells)

  -- what a plan changes is that one, or none
  pub changes_one : (c : Change) → let next = changed t k j c in set (cells_of t.stations) (16 * k + j) (cells_for (station_at next k) j) ≡ cells_of next.stations
  changes_one Nothing = one_again _ refl
  changes_one (AtStock value intake) =
      let s = put_stock (station_at t k) value intake in
      one_again _ (stored (λ v. cells_for v j ≡ cells_for (station_at t k) j) t.stations k k station_past_end (λ e. refl) refl)
      ∙ sym (cells_same t.stations k s (λ i. refl))
  changes_one (AtSide x) = side_put t.stations k j _ h g refl refl
  changes_one (AtPlace p w) = one_again _ refl

-- whatever is asked of a sound table, the row that it leaves is the one that was there, but for
-- what the one station holds for the one peer that the step looks at
pub step_changes_one : (t : Table) → table_sound t ≡ true → (asked : Option Step) → let l = seat_looked_at asked (waiting_at t (below (place_looked_at asked) most_places)) in
    let next = (asked_step t asked).table in
    set (cells_of t.stations) (16 * l.station + l.peer) (cells_for (station_at next l.station) l.peer) ≡ cells_of next.stations
step_changes_one t sound asked =
    let w = waiting_at t (below (place_looked_at asked) most_places) in
    let l = seat_looked_at asked w in
    let there = seat_there asked w refl in
    let x = side_for (station_at t l.station) l.peer in
    let plan = plan_at t.count asked (station_at t l.station).intake x w (free_for asked (flags_of t.pool)) in
    let e : changed t l.station l.peer plan.change ≡ (asked_step t asked).table = ap (λ (s : Stepped). s.table) (placed t sound asked) in
    rw (← e) (changes_one t l.station l.peer there.station there.peer plan.change)

-- and done by what that one of the row says, beside the station's stock and clocks, it is the step
pub step_looks_at_one : (t : Table) → table_sound t ≡ true → (asked : Option Step) → let w = waiting_at t (below (place_looked_at asked) most_places) in
    let l = seat_looked_at asked w in let s = station_at t l.station in let c = get_or (cells_of t.stations) (16 * l.station + l.peer) no_cells in
    let x : Side = record { value = s.value; source = s.source; destination = s.destination; slot = c.slot; token = c.token } in
    stepped t l.station l.peer (plan_at t.count asked s.intake x w (free_for asked (flags_of t.pool))) ≡ asked_step t asked
step_looks_at_one t sound asked =
    let w = waiting_at t (below (place_looked_at asked) most_places) in
    let l = seat_looked_at asked w in
    let s = station_at t l.station in
    let there = seat_there asked w refl in
    let by : Cells → Side = λ c. record { value = s.value; source = s.source; destination = s.destination; slot = c.slot; token = c.token } in
    ap (λ (c : Cells). stepped t l.station l.peer (plan_at t.count asked s.intake (by c) w (free_for asked (flags_of t.pool)))) (looked_at_one t l.station l.peer there.station there.peer)
    ∙ placed t sound asked
