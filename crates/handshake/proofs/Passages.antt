-- One move after another: what a step of a table comes to, however many rules act in it. Assumes
-- nothing.
use Prim.Native.Nat.{ℕ, ◌+◌, ◌<◌}
use mathlib.Core.Path.{◌≡◌, refl, sym, subst}
use mathlib.Core.List.{List, [], ◌++◌, append-nil, append_assoc}
use mathlib.Core.Logic.{◌⊎◌, inl, inr}
use native.Mathlib.Omega.{arith}
use Rattle.handshake.specs.Channel.{Event, quiet}
use Rattle.handshake.specs.Clauses.{Spent}
use Rattle.handshake.specs.History.{Transfer, Entry, arrival, entries, In, departed, arrived}
use Rattle.handshake.specs.Web.{Web, Letter, Holds, Moves, on_all_ways}
use Rattle.handshake.proofs.Histories.{in_either, departed_both, arrived_both}
use Rattle.handshake.proofs.Webs.{moves_keep, moves_spent, moves_out, wrote_arrival}
use Rattle.handshake.proofs.Weighs.{moves_weigh}

-- the two clocks of a transfer, in its channel
abbrev pub SpentIn : {P Q : Type 0} → Web P Q → Transfer P → Type 0
SpentIn W x = Spent (W x.maker x.receiver) x.token.source x.token.destination

-- from W, after the history H, to W' by way of the entries K, between n stations
pub record Passage {P Q : Type 0} (w : P → ℕ) (n : ℕ) (W W' : Web P Q) (Waits : Letter P Q → Type 0) (H K : List (Entry P)) : Type 0 where
  pub holds : Holds W' Waits (H ++ K)
  pub weighs : on_all_ways w W n + departed w K ≡ on_all_ways w W' n + arrived w K
  -- what was spent before it is spent after it, and did not arrive in it
  pub spent : (a b s d : ℕ) → Spent (W a b) s d → Spent (W' a b) s d
  pub stays_out : (x : Transfer P) → SpentIn W x → In (arrival x) K → ⊥

module _ {P Q : Type 0} {w : P → ℕ} {n : ℕ} {Waits : Letter P Q → Type 0} {H : List (Entry P)} where
  pub rest : {W W' : Web P Q} → W ≡ W' → Holds W Waits H → Passage w n W W' Waits H []
  unfolding departed arrived
  rest {W} {W'} e h =
      subst (λ (X : Web P Q). Passage w n W X Waits H []) e
      (record { holds = rw append-nil h; weighs = refl; spent = λ a b s d p. p; stays_out = λ x p i. let e = i.1 in cc })

  module _ {W W₁ W₂ : Web P Q} {K : List (Entry P)} {g r : ℕ} {e : Event P} (before : Passage w n W W₁ Waits H K) (move : Moves W₁ W₂ g r e) where
    out : (x : Transfer P) → SpentIn W x → In (arrival x) K ⊎ In (arrival x) (entries g r e) → ⊥
    out x p (inl i) = before.stays_out x p i
    out x p (inr i) =
        let t = wrote_arrival g r e i in
        let here : SpentIn W₁ x = before.spent x.maker x.receiver x.token.source x.token.destination p in
        moves_out move t.0 t.2 (subst (SpentIn W₁) (sym t.1) here)

    pub next : g < n → r < n → Passage w n W W₂ Waits H (K ++ entries g r e)
    next p q =
        record {
          holds = rw append_assoc at (moves_keep move before.holds);
          weighs =
              omega (
                arith,
                before.weighs,
                moves_weigh w n move p q,
                departed_both w K (entries g r e),
                arrived_both w K (entries g r e),
              );
          spent = λ a b s d z. moves_spent move a b (before.spent a b s d z);
          stays_out = λ x z i. out x z (in_either K (entries g r e) i);
        }

  pub quietly : {W W₁ W₂ : Web P Q} {K : List (Entry P)} {g r : ℕ} → Passage w n W W₁ Waits H K → Moves W₁ W₂ g r quiet → g < n → r < n
      → Passage w n W W₂ Waits H K
  quietly before move p q = rw append-nil at (next before move p q)
