-- One turn of the loop that holds a table: what is still to be done from there gives the whole.
-- Assumes nothing.
use Rattle.std.proofs.Common.{Option}
use Prim.Native.Nat.{ℕ, ◌+◌, ◌*◌, ◌<◌, ◌≤◌}
use mathlib.Core.Path.{◌≡◌, refl, ◌∙◌, ap}
use mathlib.Core.Bool.{Bool, true}
use mathlib.Core.List.{List, ◌∷◌, ◌++◌}
use native.Mathlib.Omega.{arith}
use Rattle.steps.specs.declared.asked.Step.{Step}
use lib.ListN.{length, get_or}
use lib.Seq.{sets, length-sets}
use Rattle.ground.proofs.Stores.{then}
use Rattle.rules.specs.declared.side.Side.{Side}
use Rattle.station.specs.Side.{side_for}
use Rattle.steps.specs.declared.looking.Looked.{Looked}
use Rattle.steps.specs.declared.planning.Plan.{Plan}
use Rattle.table.specs.declared.stepped.Stepped.{Stepped}
use Rattle.table.specs.declared.table.Table.{Table}
use Rattle.pool.specs.Pool.{most_places}
use Rattle.steps.specs.Looking.{below, place_looked_at, seat_looked_at, flags_of, free_for}
use Rattle.table.specs.Table.{station_at, waiting_at}
use Rattle.table.specs.Sound.{table_sound}
use Rattle.steps.specs.Running.{asked_by, asked_step, tells, asked_in, all_told, left_by, ran_by}
use Rattle.steps.specs.Planning.{plan_at, changed}
use Rattle.steps.proofs.AskedFrom.{asked_from, asked_start, asked_on, asked_ended}
use Rattle.steps.proofs.InPlace.{placed}
use Rattle.steps.proofs.Kept.{asked_keeps}

-- where the loop stands: the table is sound, the flags are those of its pool, and what is left to
-- do from here gives the whole
pub record Going (codes told₀ : List ℕ) (steps : ℕ) (t₀ : Table) (told : List ℕ) (t : Table) (taken : List Bool) (n : ℕ) : Type 0 where
  pub count : n ≤ steps
  pub room : length told ≡ length told₀
  pub sound : table_sound t ≡ true
  pub flags : taken ≡ flags_of t.pool
  pub left : left_by t (asked_from codes steps n) ≡ left_by t₀ (asked_in steps codes)
  pub says : sets told (5 * n) (all_told t (asked_from codes steps n)) ≡ sets told₀ 0 (all_told t₀ (asked_in steps codes))

pub set_out : (codes told : List ℕ) (steps : ℕ) {taken : List Bool} (t : Table) → table_sound t ≡ true → taken ≡ flags_of t.pool → Going codes told steps t told t taken 0
set_out codes told steps t e f =
    let start = asked_start codes steps in
    record { count = omega arith; room = refl; sound = e; flags = f; left = rw start; says = rw start }

module _ {codes told₀ : List ℕ} {steps : ℕ} {t₀ : Table} {told : List ℕ} {t : Table} {taken : List Bool} {n : ℕ}
    (g : Going codes told₀ steps t₀ told t taken n) where
  pub turn : {asked : Option Step} (s : Stepped) {told' : List ℕ} {taken' : List Bool} → n < steps
      → asked ≡ asked_by (get_or codes (3 * n) 0) (get_or codes (3 * n + 1) 0) (get_or codes (3 * n + 2) 0) → s ≡ asked_step t asked
      → told' ≡ sets told (5 * n) (tells s) → taken' ≡ flags_of s.table.pool
      → Going codes told₀ steps t₀ told' s.table taken' (n + 1)
  unfolding left_by all_told
  turn {asked} s h a d p f =
      let rest = asked_from codes steps (n + 1) in
      let on : asked_from codes steps n ≡ asked ∷ rest = rw a (asked_on codes steps n h) in
      let next : 5 * n + 5 ≡ 5 * (n + 1) = omega arith in
      let left : left_by s.table rest ≡ left_by t₀ (asked_in steps codes) = rw d (rw on at g.left) in
      let says : sets told (5 * n) (tells s ++ all_told s.table rest) ≡ sets told₀ 0 (all_told t₀ (asked_in steps codes)) = rw d (rw on at g.says) in
      record {
        count = omega arith;
        room = ap length p ∙ length-sets told (5 * n) (tells s) ∙ g.room;
        sound = rw d (asked_keeps t asked g.sound);
        flags = f;
        left = left;
        says = then told (5 * n) (5 * (n + 1)) (tells s) (all_told s.table rest) _ _ p refl next ∙ says;
      }

  pub ended : steps ≤ n → (record { answer = 0; result = steps; table = t } ≡ ran_by t₀ steps codes) × (told ≡ sets told₀ 0 (all_told t₀ (asked_in steps codes)))
  unfolding left_by all_told
  ended h =
      let e = asked_ended codes steps n h in
      let all : t ≡ left_by t₀ (asked_in steps codes) = rw e at g.left in
      (rw all, rw e at g.says)

-- the step that a plan is, by what was looked up for it
pub found : (t : Table) (asked : Option Step) {taken : List Bool} {i free : ℕ} {l : Looked} {x : Side} (p : Plan) {next : Table} → table_sound t ≡ true → taken ≡ flags_of t.pool
    → i ≡ below (place_looked_at asked) most_places → free ≡ free_for asked taken → l ≡ seat_looked_at asked (waiting_at t i) → x ≡ side_for (station_at t l.station) l.peer
    → p ≡ plan_at t.count asked (station_at t l.station).intake x (waiting_at t i) free → next ≡ changed t l.station l.peer p.change
    → record { answer = p.answer; result = p.result; report = p.report; table = next } ≡ asked_step t asked
found t asked p sound flags ei ef el ex ep en = rw (en, ep, ex, el, ef, ei, flags) (placed t sound asked)
