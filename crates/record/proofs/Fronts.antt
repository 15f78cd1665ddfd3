-- Fields 1 to 4 as the code reads them: what each of its ends says of the walk. Assumes nothing.
use Rattle.std.proofs.Common.{Ok, Err}
use Prim.Native.Nat.{ℕ, ◌+◌, ◌≤◌, ◌<◌}
use mathlib.Core.Path.{◌≡◌, refl, ap}
use mathlib.Core.Logic.{◌⊎◌, inl, inr}
use mathlib.Core.List.{List, [], ◌∷◌}
use mathlib.Core.Bool.{true, false, ◌&&◌, not, and-false}
use native.Mathlib.Omega.{arith}
use lib.Dec.{leb, eqb}
use borrow.Author.Tests.{lt-leb, le-leb, eq-eqb, ne_eqb}
use Rattle.ground.specs.Limits.{last_clock, most_value}
use Rattle.record.specs.declared.faults.Fault.{Fault}
use Rattle.record.specs.declared.front.Ends.{Ends}
use Rattle.record.specs.declared.faults.FaultKind.TheVariants.{UnsoundNumber}
use Rattle.record.specs.Numbers.{number_at}
use Rattle.record.specs.Fields.{Body, body}
use Rattle.record.specs.Walk.{going, stopped, step}
use Rattle.record.specs.Dateless.{from_field, to_field, value_field, clocks_field}
use Rattle.record.specs.Reading.{line_for, next_of, ends_walk, ends_bodies, ends_read, front_walk}
use Rattle.record.proofs.Cursors.{must_room, faulted, took, refused}

-- the code's test of to, and the definition's
to_refused : (from to : ℕ) → (15 < to) ⊎ ((to ≤ 15) × (from ≡ to)) → (leb to 15 && not (eqb from to)) ≡ false
to_refused from to (inl h) = rw (lt-leb to 15 h)
to_refused from to (inr h) = rw (eq-eqb from to h.1, and-false (leb to 15))

to_taken : (from to : ℕ) → to ≤ 15 → (from ≡ to → ⊥) → (leb to 15 && not (eqb from to)) ≡ true
to_taken from to h f = rw (le-leb to 15 h, ne_eqb from to f)

module _ (bytes : List ℕ) where
  pub first_fault : (e : Fault) → Err e ≡ next_of bytes 0 (line_for from_field false) → ends_walk bytes ≡ stopped e.kind e.at
  unfolding ends_walk step
  first_fault e is = rw (faulted bytes from_field false 0 e is [])

  module _ (second : ℕ) (first_is : Ok second ≡ next_of bytes 0 (line_for from_field false)) (from : ℕ) (from_is : from ≡ number_at bytes 3 1) where
    pub from_fault : 15 < from → ends_walk bytes ≡ stopped UnsoundNumber 0
    unfolding ends_walk step
    from_fault h = rw (refused bytes from_field false 0 second first_is (inl refl) [] (from ∷ []) (ap (λ (n : ℕ). n ∷ []) from_is) (lt-leb from 15 h))

    module _ (small : from ≤ 15) where
      first_taken : step bytes from_field false (going 0 []) ≡ going second (body (from ∷ []) ∷ [])
      first_taken = took bytes from_field false 0 second first_is (inl refl) [] (from ∷ []) (ap (λ (n : ℕ). n ∷ []) from_is) (le-leb from 15 small)

      pub second_fault : (e : Fault) → Err e ≡ next_of bytes second (line_for to_field false) → ends_walk bytes ≡ stopped e.kind e.at
      unfolding ends_walk
      second_fault e is = rw (first_taken, faulted bytes to_field false second e is (body (from ∷ []) ∷ []))

      module _ (at : ℕ) (second_is : Ok at ≡ next_of bytes second (line_for to_field false)) (to : ℕ) (to_is : to ≡ number_at bytes (second + 3) 1) where
        pub to_fault : (15 < to) ⊎ ((to ≤ 15) × (from ≡ to)) → ends_walk bytes ≡ stopped UnsoundNumber second
        unfolding ends_walk
        to_fault h =
            rw (
              first_taken,
              refused bytes to_field false second at second_is (inl refl) (body (from ∷ []) ∷ []) (to ∷ []) (ap (λ (n : ℕ). n ∷ []) to_is) (to_refused from to h),
            )

        pub ends_taken : to ≤ 15 → (from ≡ to → ⊥) → ends_walk bytes ≡ ends_read (record { from = from; to = to; at = at })
        unfolding ends_walk
        ends_taken h f =
            rw first_taken
            (took bytes to_field false second at second_is (inl refl) (body (from ∷ []) ∷ []) (to ∷ []) (ap (λ (n : ℕ). n ∷ []) to_is) (to_taken from to h f))

module _ (bytes : List ℕ) (e : Fault) where
  pub ends_fault : ends_walk bytes ≡ stopped e.kind e.at → front_walk bytes ≡ stopped e.kind e.at
  unfolding front_walk step
  ends_fault is = rw is

module _ (bytes : List ℕ) (ends : Ends) (before : ends_walk bytes ≡ ends_read ends) where
  pub third_fault : (e : Fault) → Err e ≡ next_of bytes ends.at (line_for value_field false) → front_walk bytes ≡ stopped e.kind e.at
  unfolding front_walk step
  third_fault e is = rw (before, faulted bytes value_field false ends.at e is (ends_bodies ends.from ends.to))

  module _ (clocks : ℕ) (third_is : Ok clocks ≡ next_of bytes ends.at (line_for value_field false)) (value : ℕ) (value_is : value ≡ number_at bytes (ends.at + 3) 8) where
    pub value_fault : most_value < value → front_walk bytes ≡ stopped UnsoundNumber ends.at
    unfolding front_walk step
    value_fault h =
        rw (
          before,
          refused bytes value_field false ends.at clocks third_is (inl refl) (ends_bodies ends.from ends.to) (value ∷ []) (ap (λ (n : ℕ). n ∷ []) value_is) (lt-leb value most_value h),
        )

    module _ (small : value ≤ most_value) where
      abbrev bodies₃ : List Body
      bodies₃ = body (ends.from ∷ []) ∷ body (ends.to ∷ []) ∷ body (value ∷ []) ∷ []

      third_taken : step bytes value_field false (ends_walk bytes) ≡ going clocks bodies₃
      third_taken =
          rw before
          (took bytes value_field false ends.at clocks third_is (inl refl) (ends_bodies ends.from ends.to) (value ∷ []) (ap (λ (n : ℕ). n ∷ []) value_is) (le-leb value most_value small))

      pub fourth_fault : (e : Fault) → Err e ≡ next_of bytes clocks (line_for clocks_field false) → front_walk bytes ≡ stopped e.kind e.at
      unfolding front_walk
      fourth_fault e is = rw (third_taken, faulted bytes clocks_field false clocks e is bodies₃)

      pub front_taken : (at : ℕ) → Ok at ≡ next_of bytes clocks (line_for clocks_field false)
          → (s d : ℕ) → (s ≡ number_at bytes (clocks + 3) 4) × (s ≤ last_clock) → (d ≡ number_at bytes (clocks + 7) 4) × (d ≤ last_clock)
          → front_walk bytes ≡ going at (body (ends.from ∷ []) ∷ body (ends.to ∷ []) ∷ body (value ∷ []) ∷ body (s ∷ d ∷ []) ∷ [])
      unfolding front_walk
      front_taken at fourth_is s d e f =
          let place : clocks + 3 + 4 ≡ clocks + 7 = omega arith in
          rw third_taken
          (took bytes clocks_field false clocks at fourth_is (inl refl) bodies₃ (s ∷ d ∷ []) (rw (e.0, f.0, place)) (rw (le-leb s last_clock e.1, le-leb d last_clock f.1)))

-- for the functions that read them
pub ruleset ends_stop = (first_fault, from_fault, second_fault, to_fault, must_room)

pub ruleset front_stops = (ends_fault, third_fault, must_room)
