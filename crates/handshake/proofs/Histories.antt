-- A history that grows at its end: what stands where, what it weighs, and when its departures and
-- arrivals still pair. Assumes nothing.
use Rattle.std.proofs.Common.{Some, slice_get}
use Rattle.std.proofs.lemmas.Option.{slice_get_within, gets}
use Rattle.std.proofs.lemmas.Grind.{common_steps}
use Prim.Native.Nat.{ℕ, zero, suc, ◌+◌, ◌<◌}
use mathlib.Core.Path.{◌≡◌, sym, ◌∙◌}
use mathlib.Core.List.{List, [], ◌∷◌, ◌++◌}
use mathlib.Core.Logic.{◌⊎◌, inl, inr, ⊎_elim}
use native.Mathlib.Omega.{arith}
use lib.ListN.{length}
use Rattle.handshake.specs.History.{Transfer, Entry, departure, arrival, In, Belong, Pairing, departed, arrived}

module _ {A : Type 0} where
  pub at_front : (H K : List A) (i : ℕ) {x : A} → slice_get H i ≡ Some x → slice_get (H ++ K) i ≡ Some x
  at_front H K i p = grind (arith, common_steps, gets)

  -- an element of two lists is one of the first, or one of the second that stands after all of the
  -- first
  pub at_either : (H K : List A) (i : ℕ) {x : A} → slice_get (H ++ K) i ≡ Some x → (slice_get H i ≡ Some x) ⊎ ((k : ℕ) × (i ≡ length H + k) × (slice_get K k ≡ Some x))
  at_either [] K i p = inr (i, omega arith, p)
  at_either (y ∷ H) K zero p = inl p
  at_either (y ∷ H) K (suc i) p = ⊎_elim inl (λ q. inr (q.0, omega (arith, q.1), q.2)) (at_either H K i p)

  pub at_one : {x y : A} (i : ℕ) → slice_get (y ∷ []) i ≡ Some x → (i ≡ 0) × (x ≡ y)
  at_one i p = grind (arith, common_steps, gets)

  -- somewhere in two lists
  pub in_front_lem : (H K : List A) {x : A} → In x H → In x (H ++ K)
  in_front_lem H K p = (p.0, at_front H K p.0 p.1)

  pub in_back : (H K : List A) {x : A} → In x K → In x (H ++ K)
  in_back H K p = (length H + p.0, let e = p.1 in grind (arith, common_steps, gets))

  pub in_either : (H K : List A) {x : A} → In x (H ++ K) → In x H ⊎ In x K
  in_either H K p = let e = p.1 in grind (arith, common_steps, gets)

module _ {P : Type 0} where
  module _ (w : P → ℕ) where
    pub departed_both : (H K : List (Entry P)) → departed w (H ++ K) ≡ departed w H + departed w K
    unfolding departed
    departed_both [] K = omega arith
    departed_both (e ∷ H) K = omega (arith, departed_both H K)

    pub arrived_both : (H K : List (Entry P)) → arrived w (H ++ K) ≡ arrived w H + arrived w K
    unfolding arrived
    arrived_both [] K = omega arith
    arrived_both (e ∷ H) K = omega (arith, arrived_both H K)

  -- of one kind, departures or arrivals: no two belong together, and none belongs to x
  abbrev One : (Transfer P → Entry P) → List (Entry P) → Type 0
  One kind H = (i k : ℕ) (x y : Transfer P) → slice_get H i ≡ Some (kind x) → slice_get H k ≡ Some (kind y) → Belong x y → i ≡ k

  abbrev pub Unmet : (Transfer P → Entry P) → List (Entry P) → Transfer P → Type 0
  Unmet kind H x = (i : ℕ) (y : Transfer P) → slice_get H i ≡ Some (kind y) → Belong y x → ⊥

  belong_back : {x y : Transfer P} → Belong x y → Belong y x
  belong_back b = record { maker = sym b.maker; receiver = sym b.receiver; source = sym b.source; destination = sym b.destination }

  -- each element is old, or the last
  last_or_old : (H : List (Entry P)) {e x : Entry P} (i : ℕ) → slice_get (H ++ (e ∷ [])) i ≡ Some x → (slice_get H i ≡ Some x) ⊎ ((i ≡ length H) × (x ≡ e))
  last_or_old H i p = grind (arith, common_steps, gets)

  still_one : (kind : Transfer P → Entry P) (H : List (Entry P)) (e : Entry P) → One kind H → ((x : Transfer P) → kind x ≡ e → Unmet kind H x)
      → One kind (H ++ (e ∷ []))
  still_one kind H e old new i k x y p q b = go (last_or_old H i p) (last_or_old H k q)
    where
      go : (slice_get H i ≡ Some (kind x)) ⊎ ((i ≡ length H) × (kind x ≡ e)) → (slice_get H k ≡ Some (kind y)) ⊎ ((k ≡ length H) × (kind y ≡ e)) → i ≡ k
      go (inl u) (inl v) = old i k x y u v b
      go (inl u) (inr v) = absurd (new y v.1 i x u b)
      go (inr u) (inl v) = absurd (new x u.1 k y v (belong_back b))
      go (inr u) (inr v) = u.0 ∙ sym v.0

  -- one entry more: if it is an arrival, it departed before and no old arrival belongs to it; if a
  -- departure, no old departure does
  module _ {H : List (Entry P)} (h : Pairing H) where
    pairing_more : (e : Entry P) → ((x : Transfer P) → arrival x ≡ e → In (departure x) H) → ((x : Transfer P) → departure x ≡ e → Unmet departure H x)
        → ((x : Transfer P) → arrival x ≡ e → Unmet arrival H x) → Pairing (H ++ (e ∷ []))
    pairing_more e before departs arrives = record {
      departed_before = λ i x p. go i x (last_or_old H i p);
      one_departure = still_one departure H e h.one_departure departs;
      one_arrival = still_one arrival H e h.one_arrival arrives;
    }
      where
        go : (i : ℕ) (x : Transfer P) → (slice_get H i ≡ Some (arrival x)) ⊎ ((i ≡ length H) × (arrival x ≡ e)) → (k : ℕ) × (k < i) × (slice_get (H ++ (e ∷ [])) k ≡ Some (departure x))
        go i x (inl q) = let d = h.departed_before i x q in (d.0, d.1, at_front H (e ∷ []) d.0 d.2)
        go i x (inr q) = let d = before x q.1 in (d.0, omega (arith, q.0, slice_get_within H d.0 _ d.1), at_front H (e ∷ []) d.0 d.1)

    pub pairing_departs : (x : Transfer P) → Unmet departure H x → Pairing (H ++ (departure x ∷ []))
    pairing_departs x n = pairing_more (departure x) (λ y e. cc) (λ y e. let z : x ≡ y = cc in rw z at n) (λ y e. cc)

    pub pairing_arrives : (x : Transfer P) → In (departure x) H → Unmet arrival H x → Pairing (H ++ (arrival x ∷ []))
    pairing_arrives x d n = pairing_more (arrival x) (λ y e. let z : x ≡ y = cc in rw z at d) (λ y e. cc) (λ y e. let z : x ≡ y = cc in rw z at n)

  pub pairing_none : Pairing {P = P} []
  pairing_none = record {
    departed_before = λ i x p. cc;
    one_departure = λ i k x y p q b. cc;
    one_arrival = λ i k x y p q b. cc;
  }
