-- A record cut just after a field may still read as a record: this is not detected, and said here
-- so that nobody leans on it.
use Rattle.std.specs.Prelude.{ℕ, List, [], ◌∷◌, map, take}
use Rattle.record.specs.Dateless.{record_of}
use Rattle.record.specs.Reading.{read_of}
use Rattle.demands.specs.Samples.{from0, slot, token}

-- 68 bytes: a slot and a token
abbrev pub whole : List ℕ
whole = record_of (from0 3 1 1 (slot 0 0 5) (token 0 0 5))

-- the answer and the result for the first bytes of it
abbrev pub cut_to : ℕ → List ℕ
cut_to n = let r = read_of (take n whole) in r.answer ∷ r.result ∷ []

abbrev pub cuts : List (List ℕ)
cuts = map cut_to (68 ∷ 67 ∷ 50 ∷ 49 ∷ 48 ∷ 31 ∷ 30 ∷ 29 ∷ 0 ∷ [])

abbrev pub cuts_told : List (List ℕ)
cuts_told =
    (0 ∷ 68 ∷ []) ∷ (9 ∷ 0 ∷ []) ∷ (9 ∷ 0 ∷ []) ∷ (0 ∷ 49 ∷ []) ∷ (9 ∷ 0 ∷ []) ∷ (9 ∷ 0 ∷ []) ∷ (0 ∷ 30 ∷ []) ∷ (9 ∷ 0 ∷ []) ∷ (9 ∷ 0 ∷ []) ∷ []
