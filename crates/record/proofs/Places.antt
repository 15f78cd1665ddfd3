-- The first fault from the front and its place, of records that are cut, changed or longer. Assumes
-- nothing.
use Rattle.std.proofs.Common.{Option, Some, None, Result, Ok, Err}
use Prim.Native.Nat.{ℕ}
use mathlib.Core.Path.{◌≡◌, refl}
use mathlib.Core.List.{List, [], ◌∷◌, ◌++◌}
use Rattle.rules.specs.declared.held.Token.{Token}
use Rattle.rules.specs.declared.held.Slot.{Slot}
use Rattle.rules.specs.declared.message.Message.{Message}
use lib.ListN.{take, drop, set}
use Rattle.record.specs.declared.faults.Fault.{Fault}
use Rattle.record.specs.Faults.{fault_number}
use Rattle.record.specs.Numbers.{big, number_at}
use Rattle.record.specs.Fields.{bytes_of}
use Rattle.record.specs.Walk.{look, taken, step, ended, walk_from}
use Rattle.record.specs.Dateless.{record_of}
use Rattle.record.specs.Reading.{walked}

-- station 0 with this value tells station 1, with source clock 1 and destination clock 2
abbrev told : ℕ → Option Slot → Option Token → List ℕ
told value slot token =
    record_of (record { from = 0; to = 1; value = value; source = record { 0 = 1 }; destination = record { 0 = 2 }; slot = slot; token = token })

abbrev slot : ℕ → ℕ → Option Slot
slot destination quantity = Some (record { source = record { 0 = 9 }; destination = record { 0 = destination }; quantity = quantity })

abbrev token : ℕ → ℕ → Option Token
token source quantity = Some (record { source = record { 0 = source }; destination = record { 0 = 9 }; quantity = quantity })

-- 30 bytes, 49 with a slot, and 68
abbrev bare : List ℕ
bare = told 10 None None

abbrev asking : List ℕ
asking = told 10 (slot 1 1) None

abbrev full : List ℕ
full = told 10 (slot 1 1) (token 0 0)

pub record Case : Type 0 where
  pub bytes : List ℕ
  pub number : ℕ
  pub place : ℕ

abbrev reads : List ℕ → ℕ → ℕ → Case
reads bytes number place = record { bytes = bytes; number = number; place = place }

abbrev pub places : List Case
places =
    -- whole
    reads bare 0 30
    ∷ reads asking 0 49
    ∷ reads full 0 68
    -- cut: before a field, in its head, in its body
    ∷ reads [] 20 0
    ∷ reads (take 2 bare) 20 2
    ∷ reads (take 3 bare) 20 3
    ∷ reads (take 4 bare) 20 4
    ∷ reads (take 18 bare) 20 18
    ∷ reads (take 19 bare) 20 19
    ∷ reads (take 48 asking) 20 48
    ∷ reads (bare ++ (7 ∷ [])) 20 31
    ∷ reads (bare ++ (7 ∷ 0 ∷ [])) 20 32
    -- another tag, where a field must be and where none may be
    ∷ reads (drop 4 bare) 21 0
    ∷ reads (take 4 bare ++ drop 8 bare) 21 4
    ∷ reads (take 8 bare ++ drop 19 bare) 21 8
    ∷ reads (set bare 0 2) 21 0
    ∷ reads (bare ++ (7 ∷ 0 ∷ 0 ∷ [])) 21 30
    ∷ reads (asking ++ (5 ∷ 0 ∷ 16 ∷ [])) 21 49
    -- another length, before the cut that it would be
    ∷ reads (set bare 2 2) 22 0
    ∷ reads (take 3 (set bare 1 1)) 22 0
    ∷ reads (bare ++ (6 ∷ 0 ∷ 17 ∷ [])) 22 30
    -- a number that is not sound, before what is wrong behind it
    ∷ reads (set bare 3 16) 23 0
    ∷ reads (take 4 (set bare 3 16)) 23 0
    ∷ reads (set bare 7 16) 23 4
    ∷ reads (set bare 7 0) 23 4
    ∷ reads (told 16000000001 None None) 23 8
    ∷ reads (set bare 22 256) 23 19
    ∷ reads (set bare 26 256) 23 19
    ∷ reads (told 10 (slot 0 0) None) 23 30
    ∷ reads (told 10 (slot 2 1) None) 23 30
    ∷ reads (told 10 (slot 0 16000000001) (token 1 1)) 23 30
    ∷ reads (told 10 None (token 1 1)) 23 30
    ∷ reads (told 10 (slot 0 1) (token 0 16000000001)) 23 49
    -- more, once the last field stands
    ∷ reads (full ++ (0 ∷ [])) 24 68
    ∷ []

-- 0 beside the record's end, or the fault's number beside its place
abbrev case_of : List ℕ → Result (Message × ℕ) Fault → Case
case_of bytes (Ok read) = reads bytes 0 read.1
case_of bytes (Err f) = reads bytes (fault_number f.kind) f.at

abbrev found : List Case → List Case
found [] = []
found (c ∷ cs) = case_of c.bytes (walked c.bytes) ∷ found cs

pub places_hold : found places ≡ places
unfolding record_of bytes_of big number_at look taken step ended walk_from walked
places_hold = refl
