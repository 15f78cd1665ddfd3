-- Fields 5 and 6 as the code reads them, which is the same for both. Assumes nothing.
use Rattle.std.proofs.Common.{Option, Some, None, Result, Ok, Err}
use Prim.Native.Nat.{ℕ, ◌+◌, ◌≤◌}
use mathlib.Core.Path.{◌≡◌, refl}
use mathlib.Core.List.{List, [], ◌∷◌, ◌++◌}
use mathlib.Core.Bool.{Bool, true, false, cond}
use native.Mathlib.Omega.{arith}
use lib.ListN.{length}
use Rattle.ground.specs.declared.clocks.SourceClock.{SourceClock}
use Rattle.ground.specs.declared.clocks.DestinationClock.{DestinationClock}
use Rattle.rules.specs.Terms.{slot_on, token_on}
use Rattle.rules.specs.declared.held.Terms.{Terms}
use Rattle.station.specs.Sound.{slot_sound, token_sound}
use Rattle.record.specs.declared.faults.Fault.{Fault}
use Rattle.record.specs.declared.faults.FaultKind.TheVariants.{UnsoundNumber}
use Rattle.record.specs.declared.fields.Line.{Line}
use Rattle.record.specs.Fields.{Body, number_of}
use Rattle.record.specs.Walk.{Walk, going, stopped, Look, here, away, fault, taken, step}
use Rattle.record.specs.Dateless.{slot_field, token_field, slot_body, token_body}
use Rattle.record.specs.Reading.{line_for, look_for, next_of, terms_at, held_at, held_next}
use Rattle.record.proofs.Cursors.{stops, missing_there, gone_on, past_here, room}

-- where the code has found the field, the whole of it is there
pub held_room : (bytes : List ℕ) (at : ℕ) (line : Line) (p : ℕ) → Ok p ≡ next_of bytes at line → (p ≡ at → ⊥) → at + 3 + line.size ≤ length bytes
held_room bytes at line p is f = room bytes at line p is (gone_on bytes at line p is f)

-- what the code hands back is what the look says
module _ {H : Type 0} (on : Terms → H) (bytes : List ℕ) (at : ℕ) (line : Line) where
  pub held_fault : (e : Fault) → Err e ≡ next_of bytes at line → Err e ≡ held_next on bytes at line
  unfolding held_next
  held_fault e is = rw (stops bytes at line e is)

  module _ (p : ℕ) (is : Ok p ≡ next_of bytes at line) where
    pub held_none : p ≡ at → Ok (None, at) ≡ held_next on bytes at line
    unfolding held_next
    held_none e = rw (missing_there bytes at line p is e)

    pub held_some : (p ≡ at → ⊥) → Ok (Some (on (terms_at bytes (at + 3))), p) ≡ held_next on bytes at line
    unfolding held_next
    held_some f = let there = gone_on bytes at line p is f in rw (past_here bytes at line p is there, there)

-- a field that was looked for, and whether what it says is held is sound: a step of the walk
abbrev pub judged : {H : Type 0} → (Option H → Body) → (Option H → Bool) → ℕ → List Body → Result (Option H × ℕ) Fault → Walk
judged held_body sound at before (Ok read) = cond (sound read.0) (going read.1 (before ++ (held_body read.0 ∷ []))) (stopped UnsoundNumber at)
judged held_body sound at before (Err e) = stopped e.kind e.at

module _ (bytes : List ℕ) (at : ℕ) (before : List Body) where
  pub slot_step : (clock : DestinationClock) → number_of before 3 1 ≡ clock.0
      → step bytes slot_field false (going at before) ≡ judged slot_body (λ h. slot_sound h clock) at before (held_next slot_on bytes at (line_for slot_field false))
  unfolding step held_next taken
  slot_step clock shown = by (look_for bytes at (line_for slot_field false))
    where
      by : (l : Look) → taken bytes slot_field at before l ≡ judged slot_body (λ h. slot_sound h clock) at before (held_at slot_on bytes at 16 l)
      by here = let e : at + 3 + 8 ≡ at + 3 + 4 + 4 = omega arith in rw (e, ← shown)
      by away = refl
      by (fault k p) = refl

  pub token_step : (clock : SourceClock) → number_of before 3 0 ≡ clock.0
      → step bytes token_field true (going at before) ≡ judged token_body (λ h. token_sound h clock) at before (held_next token_on bytes at (line_for token_field true))
  unfolding step held_next taken
  token_step clock shown = by (look_for bytes at (line_for token_field true))
    where
      by : (l : Look) → taken bytes token_field at before l ≡ judged token_body (λ h. token_sound h clock) at before (held_at token_on bytes at 16 l)
      by here = let e : at + 3 + 8 ≡ at + 3 + 4 + 4 = omega arith in rw (e, ← shown)
      by away = refl
      by (fault k p) = refl

-- for the function that hands it back
pub ruleset handed_back = (held_fault, held_none, held_room, held_some)
