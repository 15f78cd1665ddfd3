-- The whole walk as the code makes it: fields 1 to 4, then 5, then 6, then the end. Assumes
-- nothing.
use Rattle.std.proofs.Common.{Option, Some, None, Ok, Err}
use Prim.Native.Nat.{ℕ}
use mathlib.Core.Path.{◌≡◌, refl}
use mathlib.Core.List.{List, [], ◌∷◌, ◌++◌}
use mathlib.Core.Bool.{true, false}
use Rattle.rules.specs.declared.held.Token.{Token}
use Rattle.rules.specs.declared.held.Slot.{Slot}
use lib.ListN.{length}
use borrow.Author.Tests.{eq-eqb, ne_eqb}
use Rattle.station.specs.Sound.{slot_sound, token_sound}
use Rattle.record.specs.declared.faults.Fault.{Fault}
use Rattle.record.specs.declared.faults.FaultKind.TheVariants.{UnsoundNumber, Extra}
use Rattle.record.specs.declared.front.Front.{Front}
use Rattle.record.specs.Fields.{Body}
use Rattle.record.specs.Walk.{stopped, step, ended, walk_from, walk}
use Rattle.record.specs.Dateless.{slot_in, token_in, slot_field, token_field, slot_body, token_body, dateless}
use Rattle.record.specs.Reading.{line_for, ends_walk, front_walk, front_bodies, front_read, held_next, walked}
use Rattle.record.proofs.Helds.{judged, slot_step, token_step}
use Rattle.rules.specs.Terms.{slot_on, token_on}

pub slot_back : (h : Option Slot) → slot_in (slot_body h) ≡ h
slot_back None = refl
slot_back (Some l) = refl

pub token_back : (h : Option Token) → token_in (token_body h) ≡ h
token_back None = refl
token_back (Some t) = refl

module _ (bytes : List ℕ) where
  in_parts : walk dateless bytes ≡ ended bytes (step bytes token_field true (step bytes slot_field false (front_walk bytes)))
  unfolding walk_from front_walk ends_walk
  in_parts = refl

  pub front_stops : (e : Fault) → front_walk bytes ≡ stopped e.kind e.at → Err e ≡ walked bytes
  unfolding walked step ended
  front_stops e is = rw (in_parts, is)

  module _ (f : Front) (f_is : front_walk bytes ≡ front_read f) where
    slotted : step bytes slot_field false (front_walk bytes)
        ≡ judged slot_body (λ h. slot_sound h f.destination) f.at (front_bodies f) (held_next slot_on bytes f.at (line_for slot_field false))
    slotted = rw f_is (slot_step bytes f.at (front_bodies f) f.destination refl)

    pub slot_stops : (e : Fault) → Err e ≡ held_next slot_on bytes f.at (line_for slot_field false) → Err e ≡ walked bytes
    unfolding walked step ended
    slot_stops e is = rw (in_parts, slotted, ← is)

    module _ (slot : Option Slot) (next : ℕ) (slot_is : Ok (slot, next) ≡ held_next slot_on bytes f.at (line_for slot_field false)) where
      pub slot_unsound : slot_sound slot f.destination ≡ false → Err (record { kind = UnsoundNumber; at = f.at }) ≡ walked bytes
      unfolding walked step ended
      slot_unsound s = rw (in_parts, slotted, ← slot_is, s)

      module _ (s : slot_sound slot f.destination ≡ true) where
        abbrev before : List Body
        before = front_bodies f ++ (slot_body slot ∷ [])

        tokened : step bytes token_field true (step bytes slot_field false (front_walk bytes))
            ≡ judged token_body (λ h. token_sound h f.source) next before (held_next token_on bytes next (line_for token_field true))
        tokened = rw (slotted, ← slot_is, s) (token_step bytes next before f.source refl)

        pub token_stops : (e : Fault) → Err e ≡ held_next token_on bytes next (line_for token_field true) → Err e ≡ walked bytes
        unfolding walked ended
        token_stops e is = rw (in_parts, tokened, ← is)

        module _ (token : Option Token) (end : ℕ) (token_is : Ok (token, end) ≡ held_next token_on bytes next (line_for token_field true)) where
          pub token_unsound : token_sound token f.source ≡ false → Err (record { kind = UnsoundNumber; at = next }) ≡ walked bytes
          unfolding walked ended
          token_unsound t = rw (in_parts, tokened, ← token_is, t)

          module _ (t : token_sound token f.source ≡ true) where
            pub more_bytes : (end ≡ length bytes → ⊥) → Err (record { kind = Extra; at = end }) ≡ walked bytes
            unfolding walked ended
            more_bytes n = rw (in_parts, tokened, ← token_is, t, ne_eqb end (length bytes) n)

            pub all_read : end ≡ length bytes
                → Ok (
                  record {
                    from = f.from;
                    to = f.to;
                    value = f.value;
                    source = f.source;
                    destination = f.destination;
                    slot = slot;
                    token = token;
                  },
                  end,
                ) ≡ walked bytes
            unfolding walked ended
            all_read e = rw (in_parts, tokened, ← token_is, t, eq-eqb end (length bytes) e, slot_back slot, token_back token)

-- for the function that walks
pub ruleset walking = (front_stops, slot_stops, slot_unsound, token_stops, token_unsound, more_bytes, all_read)
