-- Cases for a draw: all or none, and the order of its refusals. Each is computed three times: at
-- the stock, at the station that has it, and as a step of a table of two with that station. The
-- last two, of a station's number, are cases of the table alone.
use Rattle.std.specs.Prelude.{ℕ, List, [], ◌∷◌}
use Rattle.rules.specs.Stock.{drawn_from}
use Rattle.station.specs.declared.station.Station.{Station}
use Rattle.station.specs.Steps.{blank, put_stock, draw_of}
use Rattle.table.specs.Fresh.{fresh_table_of}
use Rattle.table.specs.Table.{station_at, put_station}
use Rattle.steps.specs.declared.asked.Step.TheVariants.{Draw}
use Rattle.steps.specs.Steps.{step_of}
use Rattle.demands.specs.Cases.{Case}

-- answer, result, and the value and the intake that are left, of a draw from a stock
abbrev at_stock : ℕ → ℕ → ℕ → List ℕ
at_stock value intake amount = let r = drawn_from value intake amount in r.answer ∷ r.result ∷ r.value ∷ r.intake ∷ []

-- at station 1 with that stock
abbrev holder : ℕ → ℕ → Station
holder value intake = put_stock (blank 1 2) value intake

abbrev at_station : ℕ → ℕ → ℕ → List ℕ
at_station value intake amount =
    let r = draw_of (holder value intake) amount in
    r.answer ∷ r.result ∷ r.station.value ∷ r.station.intake ∷ []

-- and at station k of a table of two with that station
abbrev in_table : ℕ → ℕ → ℕ → ℕ → List ℕ
in_table value intake k amount =
    let r = step_of (put_station (fresh_table_of 2).table 1 (holder value intake)) (Draw k amount) in
    r.answer ∷ r.result ∷ (station_at r.table 1).value ∷ (station_at r.table 1).intake ∷ []

-- with an intake of 7
abbrev drawing : ℕ → ℕ → List (List ℕ)
drawing value amount = at_stock value 7 amount ∷ at_station value 7 amount ∷ in_table value 7 1 amount ∷ []

-- the same three times
abbrev always : List ℕ → List (List ℕ)
always numbers = numbers ∷ numbers ∷ numbers ∷ []

abbrev pub draw_cases : List Case
draw_cases =
    -- value 5: a draw of 5 is done and leaves 0; of 4, and leaves 1; of 6 is 15 and leaves 5
    record { gives = drawing 5 5; wanted = always (0 ∷ 5 ∷ 0 ∷ 7 ∷ []) }
    ∷ record { gives = drawing 5 4; wanted = always (0 ∷ 4 ∷ 1 ∷ 7 ∷ []) }
    ∷ record { gives = drawing 5 6; wanted = always (15 ∷ 0 ∷ 5 ∷ 7 ∷ []) }
    -- value 0: a draw of 1 is 15
    ∷ record { gives = drawing 0 1; wanted = always (15 ∷ 0 ∷ 0 ∷ 7 ∷ []) }
    -- an amount of 0 is 4 and not 15, where something is there and where nothing is
    ∷ record { gives = drawing 5 0; wanted = always (4 ∷ 0 ∷ 5 ∷ 7 ∷ []) }
    ∷ record { gives = drawing 0 0; wanted = always (4 ∷ 0 ∷ 0 ∷ 7 ∷ []) }
    -- an amount of 1,000,000,001 is 4 and not 15; of 1,000,000,000 it is 15, and done where so many
    -- are there
    ∷ record { gives = drawing 5 1000000001; wanted = always (4 ∷ 0 ∷ 5 ∷ 7 ∷ []) }
    ∷ record { gives = drawing 5 1000000000; wanted = always (15 ∷ 0 ∷ 5 ∷ 7 ∷ []) }
    ∷ record { gives = drawing 1000000000 1000000000; wanted = always (0 ∷ 1000000000 ∷ 0 ∷ 7 ∷ []) }
    -- not sound, for a value above the limit: 1, and neither 4 nor 15
    ∷ record { gives = drawing 16000000001 5; wanted = always (1 ∷ 0 ∷ 16000000001 ∷ 7 ∷ []) }
    ∷ record { gives = drawing 16000000001 0; wanted = always (1 ∷ 0 ∷ 16000000001 ∷ 7 ∷ []) }
    -- not sound, for an intake above the limit, and less is there than asked: 1 and not 15
    ∷ record {
      gives = at_stock 5 1000000001 6 ∷ at_station 5 1000000001 6 ∷ in_table 5 1000000001 1 6 ∷ [];
      wanted = always (1 ∷ 0 ∷ 5 ∷ 1000000001 ∷ []);
    }
    -- station 2 of 2: 2, and neither 15 nor 4
    ∷ record { gives = in_table 5 7 2 1 ∷ in_table 5 7 2 0 ∷ []; wanted = (2 ∷ 0 ∷ 5 ∷ 7 ∷ []) ∷ (2 ∷ 0 ∷ 5 ∷ 7 ∷ []) ∷ [] }
    -- a table that is not sound, and station 2 of 2: 1
    ∷ record { gives = in_table 16000000001 7 2 0 ∷ []; wanted = (1 ∷ 0 ∷ 16000000001 ∷ 7 ∷ []) ∷ [] }
    ∷ []
