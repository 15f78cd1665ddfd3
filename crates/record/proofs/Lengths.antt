-- A record is its parts, and how long it and they are: 30 bytes, and 19 more for a slot and for a
-- token. Assumes nothing.
use Rattle.std.proofs.Common.{Option, Some, None}
use Prim.Native.Nat.{ℕ, ◌+◌}
use mathlib.Core.Path.{◌≡◌, refl, ap, ◌∙◌}
use mathlib.Core.List.{List, [], ◌∷◌, ◌++◌, append_assoc, append-nil}
use lib.ListN.{length, length-append}
use Rattle.rules.specs.declared.held.Slot.{Slot}
use Rattle.rules.specs.declared.held.Token.{Token}
use Rattle.rules.specs.declared.held.Terms.{Terms}
use Rattle.rules.specs.declared.message.Message.{Message}
use Rattle.rules.specs.Terms.{slot_terms, token_terms}
use Rattle.record.specs.Fields.{tagged, bytes_of}
use Rattle.record.specs.Dateless.{record_of}
use Rattle.record.specs.Writing.{front, slot_bytes, token_bytes, held_bytes, held_size}
use Rattle.record.proofs.Digits.{length_big}

pub parts : (m : Message) → record_of m ≡ front m ++ slot_bytes m.slot ++ token_bytes m.token
unfolding record_of bytes_of
parts m = simp (append_assoc, append-nil)

-- fields 5 and 6 as the code puts them
slot_put : (h : Option Slot) → slot_bytes h ≡ held_bytes slot_terms 5 h
slot_put None = refl
slot_put (Some l) = refl

token_put : (h : Option Token) → token_bytes h ≡ held_bytes token_terms 6 h
token_put None = refl
token_put (Some t) = refl

-- one field after the other, as the code puts them
abbrev pub fields : Message → List ℕ
fields m =
    tagged 1 (1 ∷ []) (m.from ∷ [])
    ++ (tagged 2 (1 ∷ []) (m.to ∷ [])
    ++ (tagged 3 (8 ∷ []) (m.value ∷ [])
    ++ (tagged 4 (4 ∷ 4 ∷ []) (m.source.0 ∷ m.destination.0 ∷ [])
    ++ (held_bytes slot_terms 5 m.slot ++ (held_bytes token_terms 6 m.token ++ [])))))

pub as_put : (m : Message) → record_of m ≡ fields m
unfolding record_of bytes_of
as_put m = rw (← slot_put m.slot, ← token_put m.token) refl

pub length_held : {H : Type 0} (terms : H → Terms) (tag : ℕ) (h : Option H) → length (held_bytes terms tag h) ≡ held_size h
length_held terms tag None = refl
length_held terms tag (Some h) = simp (length-append, length_big)

pub length_one : {H : Type 0} (terms : H → Terms) (tag : ℕ) (h : Option H) (one : H) → h ≡ Some one → length (held_bytes terms tag h) ≡ 19
length_one terms tag h one e = length_held terms tag h ∙ ap held_size e

length_front : (m : Message) → length (front m) ≡ 30
length_front m = simp (length-append, length_big)

abbrev pub slot_size : Option Slot → ℕ
slot_size = held_size

abbrev pub token_size : Option Token → ℕ
token_size = held_size

slot_size_lem : (h : Option Slot) → length (slot_bytes h) ≡ slot_size h
slot_size_lem h = ap length (slot_put h) ∙ length_held slot_terms 5 h

token_size_lem : (h : Option Token) → length (token_bytes h) ≡ token_size h
token_size_lem h = ap length (token_put h) ∙ length_held token_terms 6 h

-- so a record's size is 30, 49 or 68
pub size : (m : Message) → length (record_of m) ≡ 30 + slot_size m.slot + token_size m.token
size m = ap length (parts m) ∙ rw (length-append, length-append, length_front m, slot_size_lem m.slot, token_size_lem m.token)
