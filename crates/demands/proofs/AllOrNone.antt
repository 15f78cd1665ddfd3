-- Every draw is all or none: that of a stock, and so that of a station and of a table. Assumes
-- nothing.
use Prim.Native.Nat.{ℕ, zero, suc, ◌≤◌}
use mathlib.Core.Path.{◌≡◌, refl}
use mathlib.Core.Bool.{Bool, true, false, not}
use mathlib.Core.Logic.{inl, inr}
use native.Mathlib.Omega.{arith}
use lib.Dec.{ltb}
use lib.ListN.{length}
use borrow.Author.Tests.{ltb-true, ltb-false}
use Rattle.ground.specs.Limits.{most_stations}
use Rattle.rules.specs.Stock.{stock_sound, amount_sound, stocked, draw_from_answer, draw_done, drawn_from}
use Rattle.ground.proofs.Refusing.{passed}
use Rattle.station.specs.declared.station.Station.{Station}
use Rattle.station.specs.Sound.{station_sound}
use Rattle.station.specs.Steps.{draw_of}
use Rattle.station.proofs.ByRules.{draw_by_stock, unsound_draw}
use Rattle.table.specs.declared.table.Table.{Table}
use Rattle.table.specs.Sound.{table_sound}
use Rattle.table.specs.Table.{station_at}
use Rattle.steps.specs.declared.asked.Step.TheVariants.{Draw}
use Rattle.steps.specs.Steps.{step_of}
use Rattle.steps.proofs.Same.{draw_same}
use Rattle.demands.specs.AllOrNone.{AllOrNone, EveryDraw}

-- a refusal takes and tells nothing
kept : {amount : ℕ} (n before : ℕ) → AllOrNone amount (suc n) 0 before before
kept n before = inr (λ f. absurd (omega arith), refl, refl)

stock_draws : (value intake amount : ℕ) → let r = drawn_from value intake amount in AllOrNone amount r.answer r.result value r.value
unfolding drawn_from
stock_draws value intake amount = by (draw_from_answer value intake amount) refl
  where
    by : (n : ℕ) → draw_from_answer value intake amount ≡ n
        → let r = stocked n value intake (draw_done value intake amount) in AllOrNone amount r.answer r.result value r.value
    by zero e =
        let one = passed (not (stock_sound value intake)) _ e in
        let two = passed (not (amount_sound amount)) _ one.1 in
        let there : amount ≤ value = ltb-false _ _ (passed (ltb value amount) _ two.1).0 in
        inl (refl, refl, omega (arith, there))
    by (suc n) e = kept n value

station_draws : (s : Station) (amount : ℕ) → let r = draw_of s amount in AllOrNone amount r.answer r.result s.value r.station.value
station_draws s amount = by (station_sound s) refl
  where
    by : (b : Bool) → station_sound s ≡ b → let r = draw_of s amount in AllOrNone amount r.answer r.result s.value r.station.value
    by true e = rw (← draw_by_stock s amount e) (stock_draws s.value s.intake amount)
    by false e = rw (← unsound_draw s amount e) (kept 0 s.value)

step_draws : (t : Table) (k amount : ℕ) → length t.stations ≡ most_stations
    → let r = step_of t (Draw k amount) in AllOrNone amount r.answer r.result (station_at t k).value (station_at r.table k).value
unfolding step_of
step_draws t k amount full = by (table_sound t) (ltb k t.count) refl refl
  where
    by : (b below : Bool) → table_sound t ≡ b → ltb k t.count ≡ below
        → let r = step_of t (Draw k amount) in AllOrNone amount r.answer r.result (station_at t k).value (station_at r.table k).value
    by false below e h = rw e (kept 0 (station_at t k).value)
    by true false e h = rw (e, h) (kept 1 (station_at t k).value)
    by true true e h =
        let same = draw_same t e full k amount (ltb-true k t.count h) in
        rw (same.answer, same.result, same.station) (station_draws (station_at t k) amount)

pub every_draw : EveryDraw
every_draw = record { stock = stock_draws; station = station_draws; step = step_draws }
