-- Cases for rule 4: a token goes for a message whose slot is newer than it, or that has no slot and
-- a newer clock. One that may still land stays.
use Rattle.std.specs.Prelude.{ℕ, List, [], ◌∷◌, Option, None}
use Rattle.rules.specs.declared.held.Slot.{Slot}
use Rattle.station.specs.Steps.{receive_of}
use Rattle.demands.specs.Samples.{station1, from0, slot, token, outcome_numbers}
use Rattle.demands.specs.Cases.{Case}

-- station 1 has 4, source clock 1, and made token (0,0) of 5; station 0 has nothing, and shows this
-- destination clock and this slot
abbrev shown : ℕ → Option Slot → List (List ℕ)
shown destination l = outcome_numbers (receive_of (station1 4 1 0 None (token 0 0 5)) (from0 0 0 destination l None))

abbrev pub spent_tokens : List Case
spent_tokens =
    -- destination clock 2, slot (0,1): the token goes, rule 4 alone
    record {
      gives = shown 2 (slot 0 1 3);
      wanted = (0 ∷ 0 ∷ []) ∷ (4 ∷ []) ∷ (0 ∷ 0 ∷ []) ∷ (4 ∷ 1 ∷ 0 ∷ []) ∷ [] ∷ [] ∷ [];
    }
    -- destination clock 2, slot (1,1): the old token goes and a new one is made, both in one report
    ∷ record {
      gives = shown 2 (slot 1 1 3);
      wanted = (0 ∷ 0 ∷ []) ∷ (4 ∷ 5 ∷ []) ∷ (0 ∷ 3 ∷ []) ∷ (1 ∷ 2 ∷ 0 ∷ []) ∷ [] ∷ (1 ∷ 1 ∷ 3 ∷ []) ∷ [];
    }
    -- destination clock 1, slot (0,0): the token stays, its passes have not landed
    ∷ record {
      gives = shown 1 (slot 0 0 3);
      wanted = (0 ∷ 0 ∷ []) ∷ [] ∷ (0 ∷ 0 ∷ []) ∷ (4 ∷ 1 ∷ 0 ∷ []) ∷ [] ∷ (0 ∷ 0 ∷ 5 ∷ []) ∷ [];
    }
    -- destination clock 1, no slot: the token goes
    ∷ record {
      gives = shown 1 None;
      wanted = (0 ∷ 0 ∷ []) ∷ (4 ∷ []) ∷ (0 ∷ 0 ∷ []) ∷ (4 ∷ 1 ∷ 0 ∷ []) ∷ [] ∷ [] ∷ [];
    }
    ∷ []
