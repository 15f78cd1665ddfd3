-- The rules of receiving are turns: what a rule sees of an old message is enough for what a turn
-- asks of the other end now. Assumes nothing.
use Rattle.std.proofs.Common.{Option, Some, None}
use Prim.Native.Nat.{ℕ, ◌≤◌, ◌<◌}
use mathlib.Core.Path.{◌≡◌, refl}
use mathlib.Core.Logic.{◌⊎◌, inl, inr}
use native.Mathlib.Omega.{arith}
use Rattle.handshake.specs.Channel.{Held, Channel, OnTheWay, Event, quiet, departs, arrives}
use Rattle.handshake.specs.Clauses.{Standing, GiverShows, ReceiverShows}
use Rattle.handshake.specs.Turn.{Turn, Opened, Brings}

module _ {P Q : Type 0} where
  -- a channel with another slot, or another token, and the clock that may have advanced
  abbrev pub with_slot : Channel P Q → ℕ → Option (Held Q) → Channel P Q
  with_slot c destination slot = record { source = c.source; destination = destination; token = c.token; slot = slot }

  abbrev pub with_token : Channel P Q → ℕ → Option (Held P) → Channel P Q
  with_token c source token = record { source = source; destination = c.destination; token = token; slot = c.slot }

  -- clocks may rise, and nothing else
  pub rests : (c : Channel P Q) {s d : ℕ} → c.source ≤ s → c.destination ≤ d
      → Turn c (record { source = s; destination = d; token = c.token; slot = c.slot }) quiet
  rests c p q = record {
    source_rises = p;
    destination_rises = q;
    token_from = λ t e. inl e;
    slot_from = λ l e. inl e;
    slot_goes = λ l e. inl e;
    brings = record {
      still = λ t o. record { slot = o.slot; stored = o.stored; stands = o.stands; source = o.source; destination = o.destination };
      nothing_new = λ t o. record { slot = o.slot; stored = o.stored; stands = o.stands; source = o.source; destination = o.destination };
    };
  }

  -- a slot that goes
  slot_gone : (c : Channel P Q) {e : Event P} (l : Held Q) → c.slot ≡ Some l → l.source < c.source → Brings c (with_slot c c.destination None) e
      → Turn c (with_slot c c.destination None) e
  slot_gone c l p h b = record {
    source_rises = omega arith;
    destination_rises = omega arith;
    token_from = λ t e. inl e;
    slot_from = λ k e. cc;
    slot_goes = λ k e. let s : k.source ≡ l.source = cc in inr (omega arith);
    brings = b;
  }

  module _ (c : Channel P Q) {clock : ℕ} {token : Option (Held P)} (m : GiverShows c clock token) where
    -- 1. Fill
    pub fills : (t : Held P) (l : Held Q) → token ≡ Some t → c.slot ≡ Some l → t.source ≡ l.source → t.destination ≡ l.destination
        → Turn c (with_slot c c.destination None) (arrives t)
    fills t l p q s d =
        slot_gone c l q (omega (arith, m.shown_source t p, m.clock_reached))
        (record {
          on_the_way = record { slot = l; stored = m.fits_only_if_stored t l p q s d; stands = q; source = s; destination = d };
          slot_gone = refl;
        })

    -- 2. Drop slot, where the shown token does not fit it
    pub drops_slot : (l : Held Q) → c.slot ≡ Some l → l.source < clock
        → ((t : Held P) → token ≡ Some t → t.source ≡ l.source → t.destination ≡ l.destination → ⊥)
        → Turn c (with_slot c c.destination None) quiet
    drops_slot l q h misfit =
        slot_gone c l q (omega (arith, m.clock_reached))
        (record { still = λ t o. absurd (none_on_way t o); nothing_new = λ t o. cc })
      where
        none_on_way : (t : Held P) → OnTheWay c t → ⊥
        none_on_way t o =
            let s : t.source ≡ l.source = cc in
            misfit t (m.older_was_shown t o.stored (omega arith)) s (cc)

    -- 3. Open slot, with the shown clock and the receiver's own, which advances
    pub opens_slot : Standing c → (l : Held Q) {next : ℕ} → c.slot ≡ None → l.source ≡ clock → l.destination ≡ c.destination → c.destination < next
        → Turn c (with_slot c next (Some l)) quiet
    opens_slot h l {next} q s d n = record {
      source_rises = omega arith;
      destination_rises = omega arith;
      token_from = λ t e. inl e;
      slot_from = λ k e. inr (opened k (cc));
      slot_goes = λ k e. cc;
      brings = record { still = λ t o. cc; nothing_new = λ t o. absurd (too_new t o) };
    }
      where
        opened : (k : Held Q) → l ≡ k → Opened c (with_slot c next (Some l)) k
        opened k e =
            let ks : l.source ≡ k.source = cc in
            let kd : l.destination ≡ k.destination = cc in
            record { source = omega (arith, m.clock_reached); own_clock = omega arith; advanced = omega arith }

        too_new : (t : Held P) → OnTheWay (with_slot c next (Some l)) t → ⊥
        too_new t o =
            let e : l.destination ≡ o.slot.destination = cc in
            omega (arith, h.token_destination t o.stored, o.destination)

  module _ (c : Channel P Q) {clock : ℕ} {slot : Option (Held Q)} (m : ReceiverShows c clock slot) where
    -- 4. Drop token, where what is shown tells that no slot waits for it any more: no slot, and a
    -- clock that has passed it, or a slot that is newer than it
    pub drops_token : (t : Held P) → c.token ≡ Some t
        → ((slot ≡ None) × (t.destination < clock)) ⊎ ((k : Held Q) × (slot ≡ Some k) × (t.destination < k.destination))
        → Turn c (with_token c c.source None) quiet
    drops_token t p past =
        record {
          source_rises = omega arith;
          destination_rises = omega arith;
          token_from = λ u e. cc;
          slot_from = λ l e. inl e;
          slot_goes = λ l e. inl e;
          brings = record { still = λ u o. absurd (none_on_way u o); nothing_new = λ u o. cc };
        }
      where
        newer : (l : Held Q) → c.slot ≡ Some l → ((slot ≡ None) × (t.destination < clock)) ⊎ ((k : Held Q) × (slot ≡ Some k) × (t.destination < k.destination))
            → t.destination < l.destination
        newer l q (inl x) = omega (arith, m.none_shown_newer l q x.0, x.1)
        newer l q (inr x) = omega (arith, m.one_shown_newer l x.0 q x.1, x.2)

        none_on_way : (u : Held P) → OnTheWay c u → ⊥
        none_on_way u o =
            let e : t.destination ≡ u.destination = cc in
            omega (arith, newer o.slot o.stands past, o.destination)

    -- 5. Make token, for a shown slot with the giver's own clock, which advances
    pub makes_token : Standing c → (t : Held P) (k : Held Q) {next : ℕ} → slot ≡ Some k → k.source ≡ c.source → c.source < next → t.source ≡ k.source
        → t.destination ≡ k.destination → Turn c (with_token c next (Some t)) (departs t)
    makes_token h t k {next} q s n ts td =
        let stands = m.stands_till_passed k q (omega arith) in
        record {
          source_rises = omega arith;
          destination_rises = omega arith;
          token_from = λ u e. inr (cc);
          slot_from = λ l e. inl e;
          slot_goes = λ l e. inl e;
          brings = record {
            none_before = λ u o. let same : k.source ≡ o.slot.source = cc in omega (arith, h.token_source u o.stored, o.source);
            on_the_way = record { slot = k; stored = refl; stands = stands; source = ts; destination = td };
            own_clock = omega arith;
            advanced = omega arith;
          };
        }
