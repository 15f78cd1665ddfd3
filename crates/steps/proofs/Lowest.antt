-- The place that a send takes: it was empty, every place before it holds a message, and a place
-- freed by a loss is used again. Assumes nothing.
use Rattle.std.proofs.Common.{Option, Some, None}
use Prim.Native.Nat.{ℕ, zero, suc, ◌<◌, ◌≤◌}
use mathlib.Core.Path.{◌≡◌, refl, sym, ◌∙◌, ap}
use mathlib.Core.Bool.{Bool, true, false}
use mathlib.Core.List.{List, [], ◌∷◌}
use native.Mathlib.Omega.{arith}
use lib.Dec.{ltb}
use lib.ListN.{set}
use lib.Seq.{get_or-set_other}
use borrow.Author.Tests.{ltb-true, ltb-false}
use Rattle.rules.specs.declared.message.Message.{Message}
use Rattle.ground.specs.Refusals.{answer_of}
use Rattle.ground.proofs.First.{first_holds, first_after, first_least}
use Rattle.pool.specs.declared.places.Place.{Place}
use Rattle.steps.specs.declared.asked.Step.TheVariants.{Send, Lose}
use Rattle.table.specs.declared.stepped.Stepped.{Stepped}
use Rattle.table.specs.declared.table.Table.{Table}
use Rattle.pool.specs.Pool.{most_places, place_in, is_empty, lowest_empty}
use Rattle.table.specs.Table.{waiting_at}
use Rattle.steps.specs.Steps.{step_refusals, step_of}
use Rattle.steps.proofs.Kept.{sends}
use Rattle.steps.proofs.Ran.{step_answers}

-- a place holds a message
abbrev pub Taken : Table → ℕ → Type 0
Taken t p = (m : Message) × (waiting_at t p ≡ Some m)

empty : (w : Option Message) → is_empty w ≡ true → w ≡ None
empty w e = grind arith

holds : (w : Option Message) → is_empty w ≡ false → (m : Message) × (w ≡ Some m)
holds None e = let z : ◌≡◌ {A = ℕ} 0 1 = cc in absurd (omega arith)
holds (Some m) e = (m, refl)

-- a send that is done, and a loss that is done
send_by : (t : Table) (from to : ℕ) → (step_of t (Send from to)).answer ≡ 0
    → ((step_of t (Send from to)).result ≡ lowest_empty t.pool) × (lowest_empty t.pool < most_places)
unfolding step_of
send_by t from to z =
    let e : answer_of (step_refusals t (Send from to)) ≡ 0 = sym (step_answers t (Send from to)) ∙ z in
    (rw e, (sends t from to e).free)

lose_by_lem : (t : Table) (p : ℕ) → (step_of t (Lose p)).answer ≡ 0 → (step_of t (Lose p)).table.pool ≡ set t.pool p (record { waiting = None })
unfolding step_of
lose_by_lem t p z = let e : answer_of (step_refusals t (Lose p)) ≡ 0 = sym (step_answers t (Lose p)) ∙ z in rw e

-- what is known of the place that a done send takes
pub record TakesLowest (t : Table) (x : Stepped) : Type 0 where
  pub lowest : x.result ≡ lowest_empty t.pool
  pub there : x.result < most_places
  pub was_empty : waiting_at t x.result ≡ None
  pub before : (q : ℕ) → q < x.result → Taken t q

pub send_takes_lowest : (t : Table) (from to : ℕ) → (step_of t (Send from to)).answer ≡ 0 → TakesLowest t (step_of t (Send from to))
send_takes_lowest t from to z =
    let s = send_by t from to z in
    let test : ℕ → Bool = λ q. is_empty (waiting_at t q) in
    rw s.0
    (record {
      lowest = refl;
      there = s.1;
      was_empty = empty _ (first_holds test most_places 0 (omega arith));
      before = λ q h. holds _ (first_after test most_places 0 q (omega arith) h);
    })

-- a place freed by a loss is empty
freed : (pool : List Place) (p : ℕ) → place_in (set pool p (record { waiting = None })) p ≡ None
freed [] p = refl
freed (x ∷ pool) zero = refl
freed (x ∷ pool) (suc p) = freed pool p

module _ (t : Table) (p from to : ℕ) (lost : (step_of t (Lose p)).answer ≡ 0) where
  abbrev later : Table
  later = (step_of t (Lose p)).table

  pool_later : later.pool ≡ set t.pool p (record { waiting = None })
  pool_later = lose_by_lem t p lost

  -- the next send takes it or an earlier place
  pub freed_at_most : (step_of later (Send from to)).answer ≡ 0 → (step_of later (Send from to)).result ≤ p
  freed_at_most z =
      rw ((send_takes_lowest later from to z).lowest, pool_later)
      (first_least _ most_places 0 p (omega arith) (rw (freed t.pool p)))

  -- and it takes this one where every place before it is taken
  pub freed_used_again : ((q : ℕ) → q < p → Taken t q) → (step_of later (Send from to)).answer ≡ 0 → (step_of later (Send from to)).result ≡ p
  freed_used_again full z = by (ltb r p) refl
    where
      r : ℕ
      r = (step_of later (Send from to)).result

      by : (b : Bool) → ltb r p ≡ b → r ≡ p
      by false e = let l = ltb-false r p e in let m = freed_at_most z in omega arith
      by true e =
          let l = ltb-true r p e in
          let one = (full r l).1 in
          let none = (send_takes_lowest later from to z).was_empty in
          let same : waiting_at later r ≡ waiting_at t r = rw pool_later (ap (λ (x : Place). x.waiting) (get_or-set_other t.pool p r (record { waiting = None }) _ (λ s. omega arith))) in
          let z : ◌≡◌ {A = ℕ} 0 1 = cc in
          absurd (omega arith)
