-- The pairing at histories of two and three entries: what it allows, and that every part of it is
-- needed. Assumes nothing.
use Rattle.std.proofs.Common.{Some, slice_get}
use Rattle.std.proofs.lemmas.Grind.{common_steps}
use Rattle.std.proofs.lemmas.Option.{gets}
use Prim.Native.Nat.{ℕ, ◌<◌}
use mathlib.Core.Path.{◌≡◌, refl, sym, ap, ◌∙◌}
use mathlib.Core.List.{List, [], ◌∷◌}
use native.Mathlib.Omega.{arith}
use borrow.Author.Tests.{eqb-false}
use Rattle.handshake.specs.History.{Transfer, Entry, departure, arrival, Belong, Pairing}

module _ (x : Transfer ℕ) where
  -- one departure, and then its arrival
  abbrev once : List (Entry ℕ)
  once = departure x ∷ arrival x ∷ []

  departs_at : (i : ℕ) {y : Transfer ℕ} → slice_get once i ≡ Some (departure y) → i ≡ 0
  departs_at i e = grind (arith, common_steps, gets)

  arrives_at : (i : ℕ) {y : Transfer ℕ} → slice_get once i ≡ Some (arrival y) → (i ≡ 1) × (x ≡ y)
  arrives_at i e = grind (arith, common_steps, gets)

  pub once_pairs : Pairing once
  once_pairs = record {
    departed_before = λ i y e. let a = arrives_at i e in (0, omega (arith, a.0), ap (λ (z : Transfer ℕ). Some (departure z)) a.1);
    one_departure = λ i k y z e f b. departs_at i e ∙ sym (departs_at k f);
    one_arrival = λ i k y z e f b. (arrives_at i e).0 ∙ sym (arrives_at k f).0;
  }

  -- an arrival before its departure is none, and one without
  pub not_before : Pairing (arrival x ∷ departure x ∷ []) → ⊥
  not_before p = let w = p.departed_before 0 x refl in omega (arith, w.1)

  pub not_alone : Pairing (arrival x ∷ []) → ⊥
  not_alone p = let w = p.departed_before 0 x refl in omega (arith, w.1)

  -- nor is a second arrival
  pub not_again : Pairing (departure x ∷ arrival x ∷ arrival x ∷ []) → ⊥
  not_again p =
      eqb-false 1 2 refl (p.one_arrival 1 2 x x refl refl (record { maker = refl; receiver = refl; source = refl; destination = refl }))

module _ (x y : Transfer ℕ) where
  only : (k : ℕ) → k < 1 → slice_get (departure y ∷ arrival x ∷ []) k ≡ Some (departure x) → y ≡ x
  only k h e = grind (arith, common_steps, gets)

  -- what arrives is what departed: the same stations, the same clocks, the same amount
  pub same_pair : Pairing (departure y ∷ arrival x ∷ []) → y ≡ x
  same_pair p = let w = p.departed_before 1 x refl in only w.0 w.1 w.2

  -- nothing departs twice with the same stations and clocks, whatever the amounts
  pub not_twice : Belong x y → Pairing (departure x ∷ departure y ∷ []) → ⊥
  not_twice b p = eqb-false 0 1 refl (p.one_departure 0 1 x y refl refl b)
