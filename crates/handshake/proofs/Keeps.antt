-- A turn keeps every clause; what is sent now, what arrived and what is stale meet theirs. Assumes
-- nothing.
use Rattle.std.proofs.Common.{Option, Some}
use Prim.Native.Nat.{ℕ, ◌<◌}
use mathlib.Core.Path.{◌≡◌, sym}
use mathlib.Core.Logic.{⊎_elim}
use native.Mathlib.Omega.{arith}
use Rattle.handshake.specs.Channel.{Held, Channel, OnTheWay, Event, quiet, departs, arrives}
use Rattle.handshake.specs.Clauses.{Standing, GiverShows, ReceiverShows, Spent}
use Rattle.handshake.specs.Turn.{Turn, Departs, Brings}

module _ {P Q : Type 0} where
  -- what the event of a departure brings
  pub departed_by_lem : {c c' : Channel P Q} {e : Event P} {t : Held P} → Brings c c' e → e ≡ departs t → Departs c c' t
  departed_by_lem b p = rw p at b

  -- a token on the way stays while its slot stands
  stays_stored : (c c' : Channel P Q) (e : Event P) → Brings c c' e → (t : Held P) (l : Held Q) → OnTheWay c t → c'.slot ≡ Some l → c'.token ≡ Some t
  stays_stored c c' quiet b t l o p = (b.still t o).stored
  stays_stored c c' (departs u) b t l o p = absurd (b.none_before t o)
  stays_stored c c' (arrives u) b t l o p = cc

module _ {P Q : Type 0} {c c' : Channel P Q} {e : Event P} (z : Turn c c' e) where
  -- what the event of a turn brings
  pub brought : {f : Event P} → e ≡ f → Brings c c' f
  brought p = rw p at z.brings

  -- a slot that stands, with a destination clock that had passed before, stood before
  slot_old : (l : Held Q) → c'.slot ≡ Some l → l.destination < c.destination → c.slot ≡ Some l
  slot_old l p h = ⊎_elim (λ q. q) (λ o. absurd (omega (arith, o.own_clock))) (z.slot_from l p)

  token_old : (t : Held P) → c'.token ≡ Some t → t.source < c.source → c.token ≡ Some t
  token_old t p h = ⊎_elim (λ q. q) (λ d. absurd (omega (arith, (brought d).own_clock))) (z.token_from t p)

  pub standing_kept : Standing c → Standing c'
  standing_kept h = record {
    token_source = λ t p. ⊎_elim (λ q. omega (arith, h.token_source t q, z.source_rises)) (λ d. (brought {f = departs t} d).advanced) (z.token_from t p);
    token_destination = λ t p. ⊎_elim (λ q. omega (arith, h.token_destination t q, z.destination_rises)) (λ d. slot_below (brought d)) (z.token_from t p);
    slot_source = λ l p. ⊎_elim (λ q. omega (arith, h.slot_source l q, z.source_rises)) (λ o. omega (arith, o.source, z.source_rises)) (z.slot_from l p);
    slot_destination = λ l p. ⊎_elim (λ q. omega (arith, h.slot_destination l q, z.destination_rises)) (λ o. o.advanced) (z.slot_from l p);
  }
    where
      slot_below : {t : Held P} → Departs c c' t → t.destination < c'.destination
      slot_below d =
          let o = d.on_the_way in
          ⊎_elim (λ q. omega (arith, h.slot_destination o.slot q, z.destination_rises, o.destination)) (λ q. omega (arith, q.advanced, o.destination)) (z.slot_from o.slot o.stands)

  pub giver_kept : {clock : ℕ} {token : Option (Held P)} → GiverShows c clock token → GiverShows c' clock token
  giver_kept h = record {
    clock_reached = omega (arith, h.clock_reached, z.source_rises);
    shown_source = h.shown_source;
    shown_destination = λ t p. omega (arith, h.shown_destination t p, z.destination_rises);
    fits_only_if_stored = λ t l p q s d.
        let old = slot_old l q (omega (arith, h.shown_destination t p)) in
        stays_stored c c' e z.brings t l (record { slot = l; stored = h.fits_only_if_stored t l p old s d; stands = old; source = s; destination = d }) q;
    older_was_shown = λ t p s. h.older_was_shown t (token_old t p (omega (arith, h.clock_reached))) s;
  }

  pub receiver_kept : {clock : ℕ} {slot : Option (Held Q)} → ReceiverShows c clock slot → ReceiverShows c' clock slot
  receiver_kept {clock} {slot} h = record {
    clock_reached = omega (arith, h.clock_reached, z.destination_rises);
    shown_destination = h.shown_destination;
    none_shown_newer = λ l p n. ⊎_elim (λ q. h.none_shown_newer l q n) (λ o. omega (arith, h.clock_reached, o.own_clock)) (z.slot_from l p);
    one_shown_newer = λ l k p q.
        ⊎_elim (λ s. h.one_shown_newer l k s q) (λ o. omega (arith, h.clock_reached, h.shown_destination k q, o.own_clock)) (z.slot_from l p);
    stands_till_passed = λ k q s.
        ⊎_elim (λ p. p) (λ b. absurd (omega (arith, z.source_rises))) (z.slot_goes k (h.stands_till_passed k q (omega (arith, z.source_rises))));
  }

  pub spent_kept : {s d : ℕ} → Spent c s d → Spent c' s d
  spent_kept h = record {
    passed = omega (arith, h.passed, z.destination_rises);
    no_slot = λ l p a b. h.no_slot l (slot_old l p (omega (arith, h.passed))) a b;
  }

  -- what arrives is spent from then on, and what is spent does not arrive
  pub arrived_spent : (t : Held P) → Standing c → e ≡ arrives t → Spent c' t.source t.destination
  arrived_spent t h p =
      let a = brought p in
      record {
        passed = omega (arith, h.token_destination t a.on_the_way.stored, z.destination_rises);
        no_slot = λ l q _ _. cc;
      }

  pub spent_stays_out : (t : Held P) → Spent c t.source t.destination → e ≡ arrives t → ⊥
  spent_stays_out t h p = let o = (brought p).on_the_way in h.no_slot o.slot o.stands (sym o.source) (sym o.destination)

module _ {P Q : Type 0} {c : Channel P Q} (h : Standing c) where
  -- a message sent now
  pub giver_now : GiverShows c c.source c.token
  giver_now = record {
    clock_reached = omega arith;
    shown_source = h.token_source;
    shown_destination = h.token_destination;
    fits_only_if_stored = λ t l p q s d. p;
    older_was_shown = λ t p s. p;
  }

  pub receiver_now : ReceiverShows c c.destination c.slot
  receiver_now = record {
    clock_reached = omega arith;
    shown_destination = h.slot_destination;
    none_shown_newer = λ l p n. cc;
    one_shown_newer = λ l k p q. let e : k.destination ≡ l.destination = cc in omega arith;
    stands_till_passed = λ k p s. p;
  }

  -- a stored token that is not on the way is spent
  pub stale_spent : (t : Held P) → c.token ≡ Some t → (OnTheWay c t → ⊥) → Spent c t.source t.destination
  stale_spent t p n = record {
    passed = h.token_destination t p;
    no_slot = λ l q a b. n (record { slot = l; stored = p; stands = q; source = sym a; destination = sym b });
  }
