-- The cases at the edges that are to be proved, each as what the entry points' definitions give and
-- what they have to give.
use Rattle.std.specs.Prelude.{ℕ, List, [], ◌∷◌, ◌++◌, None}
use Rattle.station.specs.declared.station.Station.{Station}
use Rattle.rules.specs.declared.message.Message.{Message}
use Rattle.station.specs.declared.outcome.Outcome.{Outcome}
use Rattle.station.specs.Steps.{blank, put_stock, add_of, receive_of}
use Rattle.record.specs.Dateless.{record_of}
use Rattle.record.specs.Reading.{read_of}
use Rattle.demands.specs.Samples.{station1, from0, slot, token, outcome_numbers}

pub record Case : Type 0 where
  pub gives : List (List ℕ)
  pub wanted : List (List ℕ)

-- delivered, and delivered again
abbrev once : Station → Message → Outcome
once s m = receive_of s m

abbrev again : Station → Message → Outcome
again s m = receive_of (receive_of s m).station m

abbrev add_near_limit : ℕ → List ℕ
add_near_limit amount = let r = add_of (put_stock (blank 1 2) 0 999999999) amount in r.answer ∷ r.result ∷ r.station.intake ∷ []

-- station 0 with value 10 and fresh clocks, to station 1
abbrev pub printed : List ℕ
printed = record_of (from0 10 0 0 None None)

abbrev read_numbers : List ℕ → List ℕ
read_numbers bytes = let r = read_of bytes in r.answer ∷ r.result ∷ []

abbrev pub cases : List Case
cases =
    -- values 10 and 0, rule 3 at the poorer: slot of 5
    record {
      gives = outcome_numbers (once (station1 0 0 0 None None) (from0 10 0 0 None None));
      wanted = (0 ∷ 0 ∷ []) ∷ (3 ∷ []) ∷ (5 ∷ 0 ∷ []) ∷ (0 ∷ 0 ∷ 1 ∷ []) ∷ (0 ∷ 0 ∷ 5 ∷ []) ∷ [] ∷ [];
    }
    -- values 1 and 0: no slot
    ∷ record {
      gives = outcome_numbers (once (station1 0 0 0 None None) (from0 1 0 0 None None));
      wanted = (0 ∷ 0 ∷ []) ∷ [] ∷ (0 ∷ 0 ∷ []) ∷ (0 ∷ 0 ∷ 0 ∷ []) ∷ [] ∷ [] ∷ [];
    }
    -- values 3 and 5, the message shows 3: no slot
    ∷ record {
      gives = outcome_numbers (once (station1 5 0 0 None None) (from0 3 0 0 None None));
      wanted = (0 ∷ 0 ∷ []) ∷ [] ∷ (0 ∷ 0 ∷ []) ∷ (5 ∷ 0 ∷ 0 ∷ []) ∷ [] ∷ [] ∷ [];
    }
    -- slot of 5, the maker holds 5: token 5, value 0
    ∷ record {
      gives = outcome_numbers (once (station1 5 0 0 None None) (from0 0 0 1 (slot 0 0 5) None));
      wanted = (0 ∷ 0 ∷ []) ∷ (5 ∷ []) ∷ (0 ∷ 5 ∷ []) ∷ (0 ∷ 1 ∷ 0 ∷ []) ∷ [] ∷ (0 ∷ 0 ∷ 5 ∷ []) ∷ [];
    }
    -- slot of 5, the maker holds 0: token 0, the source clock still advances
    ∷ record {
      gives = outcome_numbers (once (station1 0 0 0 None None) (from0 0 0 1 (slot 0 0 5) None));
      wanted = (0 ∷ 0 ∷ []) ∷ (5 ∷ []) ∷ (0 ∷ 0 ∷ []) ∷ (0 ∷ 1 ∷ 0 ∷ []) ∷ [] ∷ (0 ∷ 0 ∷ 0 ∷ []) ∷ [];
    }
    -- the same slot delivered again: no token
    ∷ record {
      gives = outcome_numbers (again (station1 9 0 0 None None) (from0 0 0 1 (slot 0 0 5) None));
      wanted = (0 ∷ 0 ∷ []) ∷ [] ∷ (0 ∷ 0 ∷ []) ∷ (4 ∷ 1 ∷ 0 ∷ []) ∷ [] ∷ (0 ∷ 0 ∷ 5 ∷ []) ∷ [];
    }
    -- the same token delivered again: value unchanged
    ∷ record {
      gives = outcome_numbers (again (station1 2 0 1 (slot 0 0 5) None) (from0 3 1 0 None (token 0 0 5)));
      wanted = (0 ∷ 0 ∷ []) ∷ [] ∷ (0 ∷ 0 ∷ []) ∷ (7 ∷ 0 ∷ 1 ∷ []) ∷ [] ∷ [] ∷ [];
    }
    -- slot (0,0), a message with source clock 1 and no token, values equal: slot dropped, none
    -- opened
    ∷ record {
      gives = outcome_numbers (once (station1 4 0 1 (slot 0 0 5) None) (from0 4 1 0 None None));
      wanted = (0 ∷ 0 ∷ []) ∷ (2 ∷ []) ∷ (0 ∷ 0 ∷ []) ∷ (4 ∷ 0 ∷ 1 ∷ []) ∷ [] ∷ [] ∷ [];
    }
    -- intake 999,999,999, add 1: done; add 2: 5
    ∷ record { gives = add_near_limit 1 ∷ add_near_limit 2 ∷ []; wanted = (0 ∷ 1 ∷ 1000000000 ∷ []) ∷ (5 ∷ 0 ∷ 999999999 ∷ []) ∷ [] }
    -- the printed record of 30 bytes with a 31st: 9
    ∷ record { gives = read_numbers printed ∷ read_numbers (printed ++ (0 ∷ [])) ∷ []; wanted = (0 ∷ 30 ∷ []) ∷ (9 ∷ 0 ∷ []) ∷ [] }
    ∷ []
