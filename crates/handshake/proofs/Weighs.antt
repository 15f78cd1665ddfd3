-- What is on the way, weighed: a departure adds to it, an arrival takes from it, and nothing else
-- changes it. Assumes nothing.
use Rattle.std.proofs.Common.{Option, Some, None}
use Prim.Native.Nat.{ℕ, ◌+◌, ◌<◌}
use mathlib.Core.Path.{◌≡◌, refl}
use mathlib.Core.Bool.{◌&&◌}
use mathlib.Core.Logic.{◌⊎◌, inl, inr, ⊎_elim}
use native.Mathlib.Omega.{arith}
use lib.Dec.{eqb}
use borrow.Author.Tests.{eq-eqb}
use Rattle.handshake.specs.Channel.{Held, Channel, OnTheWay, Event, quiet, departs, arrives}
use Rattle.handshake.specs.Turn.{Turn, Stays}
use Rattle.handshake.specs.History.{entries, departed, arrived}
use Rattle.handshake.specs.Web.{Web, Moves, weigh, weight, on_all_ways}
use Rattle.ground.proofs.Choices.{chosen}
use Rattle.ground.proofs.Tests.{both_same}
use Rattle.ground.proofs.Sums.{pairs_one}

module _ {P Q : Type 0} (w : P → ℕ) where
  pub weight_on : {c : Channel P Q} {t : Held P} → OnTheWay c t → weight w c ≡ w t.carried
  weight_on {c} {t} o = rw (o.stored, o.stands, eq-eqb t.source o.slot.source o.source, eq-eqb t.destination o.slot.destination o.destination)

  -- a token is on the way, or what is on the way weighs nothing
  on_or_none : (c : Channel P Q) → ((t : Held P) × OnTheWay c t) ⊎ (weight w c ≡ 0)
  on_or_none c = go c.token c.slot refl refl
    where
      go : (token : Option (Held P)) (slot : Option (Held Q)) → c.token ≡ token → c.slot ≡ slot → ((t : Held P) × OnTheWay c t) ⊎ (weigh w token slot ≡ 0)
      go None slot p q = inr refl
      go (Some t) None p q = inr refl
      go (Some t) (Some l) p q =
          chosen (λ (n : ℕ). ((t : Held P) × OnTheWay c t) ⊎ (n ≡ 0)) (eqb t.source l.source && eqb t.destination l.destination) _ _
          (λ e.
          let s = both_same t.source l.source t.destination l.destination e in
          inl (t, record { slot = l; stored = p; stands = q; source = s.0; destination = s.1 }))
          (λ e. inr refl)

  pub weight_none : {c : Channel P Q} → ((t : Held P) → OnTheWay c t → ⊥) → weight w c ≡ 0
  weight_none {c} n = ⊎_elim (λ o. absurd (n o.0 o.1)) (λ e. e) (on_or_none c)

  weight_stays : (c c' : Channel P Q) → Stays c c' → weight w c ≡ weight w c'
  weight_stays c c' s = go (on_or_none c) (on_or_none c')
    where
      go : ((t : Held P) × OnTheWay c t) ⊎ (weight w c ≡ 0) → ((t : Held P) × OnTheWay c' t) ⊎ (weight w c' ≡ 0) → weight w c ≡ weight w c'
      go (inl o) b = cc (weight_on o.1, weight_on (s.still o.0 o.1))
      go (inr e) (inl o) = cc (weight_on o.1, weight_on (s.nothing_new o.0 o.1))
      go (inr e) (inr f) = cc

  -- what was on the way and what departed is what is on the way and what arrived, in one channel
  -- and in all
  pub turn_weighs : (c c' : Channel P Q) (e : Event P) (g r : ℕ) → Turn c c' e
      → weight w c + departed w (entries g r e) ≡ weight w c' + arrived w (entries g r e)
  unfolding departed arrived
  turn_weighs c c' quiet g r z = omega (arith, weight_stays c c' z.brings)
  turn_weighs c c' (departs t) g r z = omega (arith, weight_none z.brings.none_before, weight_on z.brings.on_the_way)
  turn_weighs c c' (arrives t) g r z = omega (arith, weight_on z.brings.on_the_way, weight_none {c = c'} (λ u o. cc))

  pub moves_weigh : {W W' : Web P Q} {g r : ℕ} {e : Event P} (n : ℕ) → Moves W W' g r e → g < n → r < n
      → on_all_ways w W n + departed w (entries g r e) ≡ on_all_ways w W' n + arrived w (entries g r e)
  moves_weigh {W} {W'} {g} {r} {e} n z p q =
      omega (
        arith,
        pairs_one (λ a b. weight w (W a b)) (λ a b. weight w (W' a b)) n g r p q (λ a b i. weight_stays (W a b) (W' a b) (z.elsewhere a b i).brings),
        turn_weighs (W g r) (W' g r) e g r z.here,
      )
