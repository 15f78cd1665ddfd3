-- A slot or a token and its four numbers. Assumes nothing.
use Rattle.std.proofs.Common.{Option, Some, None}
use Prim.Native.Nat.{ℕ, zero, suc, ◌+◌, ◌<◌, ◌≤◌}
use mathlib.Core.Path.{◌≡◌, refl, ap}
use mathlib.Core.Bool.{true, ◌&&◌, ◌||◌, and-false}
use mathlib.Core.List.{List}
use native.Mathlib.Omega.{arith}
use native.Mathlib.Nat.{add-zero}
use Rattle.rules.specs.declared.held.Token.{Token}
use Rattle.rules.specs.declared.held.Slot.{Slot}
use Rattle.rules.specs.declared.held.Terms.{Terms}
use lib.Dec.{eqb, ltb}
use lib.ListN.{get_or}
use borrow.Author.Tests.{eqb-true, ltb-true, le-leb}
use Rattle.ground.specs.declared.clocks.SourceClock.{SourceClock}
use Rattle.ground.specs.declared.clocks.DestinationClock.{DestinationClock}
use Rattle.ground.specs.Limits.{last_clock}
use Rattle.ground.specs.Clocks.{clock_sound}
use Rattle.station.specs.Sound.{slot_sound, token_sound}
use Rattle.ground.proofs.Tests.{needed}
use Rattle.quynhabet.specs.declared.fours.Four.{Four}
use Rattle.rules.specs.Terms.{slot_terms, slot_on, token_terms, token_on}
use Rattle.quynhabet.specs.Layout.{four_numbers, four_at, four_fits, four_of, held_of, slot_four, token_four, slot_of, token_of}
use Rattle.quynhabet.proofs.Fitting.{fitting}

-- what is held on its own terms is read back from its four numbers
held_back : {H : Type 0} (terms : H → Terms) (on : Terms → H) → ((h : H) → on (terms h) ≡ h) → (h : Option H) → held_of on (four_of terms h) ≡ h
held_back terms on e None = refl
held_back terms on e (Some h) = ap Some (e h)

pub slot_back : (h : Option Slot) → slot_of (slot_four h) ≡ h
slot_back h = held_back slot_terms slot_on (λ l. refl) h

pub token_back : (h : Option Token) → token_of (token_four h) ≡ h
token_back h = held_back token_terms token_on (λ t. refl) h

-- four numbers are equal where each is
same_four : (f g : Four) → f.present ≡ g.present → f.source ≡ g.source → f.destination ≡ g.destination → f.quantity ≡ g.quantity → f ≡ g
same_four f g p s d q = λ i. record { present = p i; source = s i; destination = d i; quantity = q i }

pub four_at_lem : (numbers : List ℕ) (at : ℕ) (f : Four) → ((j : ℕ) → j < 4 → get_or numbers (at + j) 0 ≡ get_or (four_numbers f) j 0) → four_at numbers at ≡ f
four_at_lem numbers at f same =
    same_four (four_at numbers at) f (rw (add-zero at) at (same 0 (omega arith))) (same 1 (omega arith)) (same 2 (omega arith)) (same 3 (omega arith))

pub at_four : (numbers : List ℕ) (at j : ℕ) → j < 4 → get_or (four_numbers (four_at numbers at)) j 0 ≡ get_or numbers (at + j) 0
at_four numbers at zero h = rw (add-zero at)
at_four numbers at (suc zero) h = refl
at_four numbers at (suc (suc zero)) h = refl
at_four numbers at (suc (suc (suc zero))) h = refl
at_four numbers at (suc (suc (suc (suc j)))) h = absurd (omega arith)

-- what is not held is four zeros, so that no other four numbers fit
zeros : (s d q : ℕ) → (eqb s 0 && eqb d 0 && eqb q 0) ≡ true → (s ≡ 0) × (d ≡ 0) × (q ≡ 0)
zeros s d q e = (
  eqb-true _ _ (needed (eqb s 0) (λ t. simp t at e)),
  eqb-true _ _ (needed (eqb d 0) (λ t. simp (t, and-false) at e)),
  eqb-true _ _ (needed (eqb q 0) (λ t. simp (t, and-false) at e)),
)

held_same : {H : Type 0} (terms : H → Terms) (on : Terms → H) → ((n : Terms) → terms (on n) ≡ n) → (p s d q : ℕ) → p ≤ 1
    → (eqb p 1 || (eqb s 0 && eqb d 0 && eqb q 0)) ≡ true → let f : Four = record { present = p; source = s; destination = d; quantity = q } in
    four_of terms (held_of on f) ≡ f
held_same terms on same zero s d q h e = let z = zeros s d q e in rw (z.0, z.1, z.2)
held_same terms on same (suc zero) s d q h e =
    ap (λ (n : Terms). four_of (λ (m : Terms). m) (Some n)) (same (record { source = record { 0 = s }; destination = record { 0 = d }; quantity = q }))
held_same terms on same (suc (suc p)) s d q h e = absurd (omega arith)

held_four_back : {H : Type 0} (terms : H → Terms) (on : Terms → H) → ((n : Terms) → terms (on n) ≡ n) → (f : Four) → four_fits f ≡ true → four_of terms (held_of on f) ≡ f
held_four_back terms on same f e = let w = fitting f e in held_same terms on same f.present f.source f.destination f.quantity w.present w.held

pub slot_four_back : (f : Four) → four_fits f ≡ true → slot_four (slot_of f) ≡ f
slot_four_back f e = held_four_back slot_terms slot_on (λ n. refl) f e

pub token_four_back : (f : Four) → four_fits f ≡ true → token_four (token_of f) ≡ f
token_four_back f e = held_four_back token_terms token_on (λ n. refl) f e

-- what is sound fits
pub slot_fits_lem : (h : Option Slot) (clock : DestinationClock) → slot_sound h clock ≡ true → clock.0 ≤ last_clock → four_fits (slot_four h) ≡ true
unfolding four_fits
slot_fits_lem None clock e b = refl
slot_fits_lem (Some l) clock e b =
    let below : l.destination.0 < clock.0 = ltb-true _ _ (needed (ltb l.destination.0 clock.0) (λ t. simp (t, and-false) at e)) in
    let in_range : l.destination.0 ≤ last_clock = omega arith in
    rw (needed (clock_sound l.source.0) (λ t. simp (t, and-false) at e), le-leb _ _ in_range)

pub token_fits_lem : (h : Option Token) (clock : SourceClock) → token_sound h clock ≡ true → clock.0 ≤ last_clock → four_fits (token_four h) ≡ true
unfolding four_fits
token_fits_lem None clock e b = refl
token_fits_lem (Some t) clock e b =
    let below : t.source.0 < clock.0 = ltb-true _ _ (needed (ltb t.source.0 clock.0) (λ f. simp (f, and-false) at e)) in
    let in_range : t.source.0 ≤ last_clock = omega arith in
    rw (needed (clock_sound t.destination.0) (λ f. simp (f, and-false) at e), le-leb _ _ in_range)
