-- What holds of a web at all times is kept: by a move of one channel, by sends and losses of
-- letters, and it holds at the start. Assumes nothing.
use Rattle.std.proofs.Common.{Some, None}
use Prim.Native.Nat.{ℕ, ◌<◌}
use mathlib.Core.Path.{◌≡◌, refl, subst}
use mathlib.Core.List.{List, [], ◌++◌, append-nil}
use mathlib.Core.Logic.{◌⊎◌, inl, inr, ⊎_elim}
use native.Mathlib.Omega.{arith}
use native.Mathlib.Decide.{ℕ_discrete}
use Rattle.handshake.specs.Channel.{Held, Event, quiet, departs, arrives}
use Rattle.handshake.specs.Clauses.{Spent}
use Rattle.handshake.specs.Turn.{Turn}
use Rattle.handshake.specs.History.{Transfer, transfer, Entry, departure, arrival, entries, In, Pairing}
use Rattle.handshake.specs.Web.{Web, Letter, LetterShows, Holds, Moves, Present}
use Rattle.handshake.proofs.Keeps.{brought, standing_kept, giver_kept, receiver_kept, spent_kept, arrived_spent, spent_stays_out, giver_now, receiver_now}
use Rattle.handshake.proofs.Histories.{at_one, in_front_lem, in_back, in_either, pairing_none, pairing_departs, pairing_arrives}

-- an entry that a turn of the channel from g to r writes is its own event
module _ {P : Type 0} (g r : ℕ) where
  wrote_departure : (e : Event P) {x : Transfer P} → In (departure x) (entries g r e) → (t : Held P) × (transfer g r t ≡ x) × (e ≡ departs t)
  wrote_departure quiet p = cc
  wrote_departure (departs t) p = let e = (at_one p.0 p.1).1 in (t, (cc), refl)
  wrote_departure (arrives t) p = let e = (at_one p.0 p.1).1 in cc

  pub wrote_arrival : (e : Event P) {x : Transfer P} → In (arrival x) (entries g r e) → (t : Held P) × (transfer g r t ≡ x) × (e ≡ arrives t)
  wrote_arrival quiet p = cc
  wrote_arrival (departs t) p = let e = (at_one p.0 p.1).1 in cc
  wrote_arrival (arrives t) p = let e = (at_one p.0 p.1).1 in (t, (cc), refl)

  writes_departure : {e : Event P} {t : Held P} → e ≡ departs t → In (departure (transfer g r t)) (entries g r e)
  writes_departure p = rw p (0, refl)

-- a turn of the channel from a to b, and what departs in it is among the entries E
abbrev TurnIn : {P Q : Type 0} → Web P Q → Web P Q → ℕ → ℕ → List (Entry P) → Type 0
TurnIn {P} W W' a b E = (e : Event P) × Turn (W a b) (W' a b) e × ((t : Held P) → e ≡ departs t → In (departure (transfer a b t)) E)

module _ {P Q : Type 0} {W W' : Web P Q} {g r : ℕ} {e : Event P} (z : Moves W W' g r e) where
  -- every channel makes a turn
  turned : (a b : ℕ) → TurnIn W W' a b (entries g r e)
  turned a b = go (ℕ_discrete a g) (ℕ_discrete b r)
    where
      quietly : (a ≡ g → b ≡ r → ⊥) → TurnIn W W' a b (entries g r e)
      quietly n = (quiet, z.elsewhere a b n, λ t p. cc)

      go : Dec (a ≡ g) → Dec (b ≡ r) → TurnIn W W' a b (entries g r e)
      go (yes p) (yes q) = rw (p, q) (e, z.here, λ t s. writes_departure g r s)
      go (yes p) (no n) = quietly (λ _ q. n q)
      go (no n) q = quietly (λ p _. n p)

  -- what is spent stays spent, and does not arrive: so a stored token that is not on the way never
  -- will
  pub moves_spent : (a b : ℕ) {s d : ℕ} → Spent (W a b) s d → Spent (W' a b) s d
  moves_spent a b = spent_kept (turned a b).1

  pub moves_out : (t : Held P) → e ≡ arrives t → Spent (W g r) t.source t.destination → ⊥
  moves_out t p h = spent_stays_out z.here t h p

  module _ {Waits : Letter P Q → Type 0} {H : List (Entry P)} (h : Holds W Waits H) where
    departures_kept : (x : Transfer P) → In (departure x) H ⊎ In (departure x) (entries g r e) → x.token.source < (W' x.maker x.receiver).source
    departures_kept x (inl p) = omega (arith, h.departures x.maker x.receiver x.token p, (turned x.maker x.receiver).1.source_rises)
    departures_kept x (inr p) =
        let d = wrote_departure g r e p in
        subst (λ (y : Transfer P). y.token.source < (W' y.maker y.receiver).source) d.1 (brought z.here d.2).advanced

    arrivals_kept : (x : Transfer P) → In (arrival x) H ⊎ In (arrival x) (entries g r e) → Spent (W' x.maker x.receiver) x.token.source x.token.destination
    arrivals_kept x (inl p) = moves_spent x.maker x.receiver (h.arrivals x.maker x.receiver x.token p)
    arrivals_kept x (inr p) =
        let d = wrote_arrival g r e p in
        subst (λ (y : Transfer P). Spent (W' y.maker y.receiver) y.token.source y.token.destination) d.1 (arrived_spent z.here d.0 (h.standing g r) d.2)

    stored_kept : (a b : ℕ) (t : Held P) → (W' a b).token ≡ Some t → In (departure (transfer a b t)) (H ++ entries g r e)
    stored_kept a b t p =
        let k = turned a b in
        ⊎_elim (λ q. in_front_lem H (entries g r e) (h.stored a b t q)) (λ q. in_back H (entries g r e) (k.2 t q)) (k.1.token_from t p)

    -- a departure is newer than all before it; what arrives is stored, so it departed, and is not
    -- spent, as all that arrived are
    pairing_kept : (i : Event P) → e ≡ i → Pairing (H ++ entries g r i)
    pairing_kept quiet p = rw append-nil h.pairing
    pairing_kept (departs t) p = pairing_departs h.pairing (transfer g r t) λ i y q b.
        omega (arith, (brought z.here p).own_clock, rw (b.maker, b.receiver) at (h.departures y.maker y.receiver y.token (i, q)), b.source)
    pairing_kept (arrives t) p = pairing_arrives h.pairing (transfer g r t) (h.stored g r t (brought z.here p).on_the_way.stored) λ i y q b.
        moves_out t p (rw (b.maker, b.receiver, b.source, b.destination) at (h.arrivals y.maker y.receiver y.token (i, q)))

    pub moves_keep : Holds W' Waits (H ++ entries g r e)
    moves_keep = record {
      standing = λ a b. standing_kept (turned a b).1 (h.standing a b);
      shown = λ m i. record {
        gives = giver_kept (turned m.from m.to).1 (h.shown m i).gives;
        asks = receiver_kept (turned m.to m.from).1 (h.shown m i).asks;
      };
      departures = λ a b t p. departures_kept (transfer a b t) (in_either H (entries g r e) p);
      arrivals = λ a b t p. arrivals_kept (transfer a b t) (in_either H (entries g r e) p);
      stored = stored_kept;
      pairing = pairing_kept e refl;
    }

module _ {P Q : Type 0} {W : Web P Q} where
  -- letters are sent, which show their sender as it is now, and lost
  pub waits_keep : {Waits Waits' : Letter P Q → Type 0} {H : List (Entry P)} → Holds W Waits H → ((m : Letter P Q) → Waits' m → Waits m ⊎ Present W m)
      → Holds W Waits' H
  waits_keep h f = record {
    standing = h.standing;
    shown = λ m i. ⊎_elim (h.shown m) (sent m) (f m i);
    departures = h.departures;
    arrivals = h.arrivals;
    stored = h.stored;
    pairing = h.pairing;
  }
    where
      sent : (m : Letter P Q) → Present W m → LetterShows W m
      sent m p = record {
        gives = rw (p.source, p.token) (giver_now (h.standing m.from m.to));
        asks = rw (p.destination, p.slot) (receiver_now (h.standing m.to m.from));
      }

  -- at the start nothing is stored, stands or waits
  pub fresh_web : {Waits : Letter P Q → Type 0} → ((g r : ℕ) → (W g r).token ≡ None) → ((g r : ℕ) → (W g r).slot ≡ None) → ((m : Letter P Q) → Waits m → ⊥)
      → Holds W Waits []
  fresh_web token slot waits = record {
    standing = λ g r. record {
      token_source = λ t p. let e = token g r in cc;
      token_destination = λ t p. let e = token g r in cc;
      slot_source = λ l p. let e = slot g r in cc;
      slot_destination = λ l p. let e = slot g r in cc;
    };
    shown = λ m i. absurd (waits m i);
    departures = λ g r t p. cc;
    arrivals = λ g r t p. cc;
    stored = λ g r t p. let e = token g r in cc;
    pairing = pairing_none;
  }
