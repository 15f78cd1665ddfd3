-- For each promise of a table wrong outcomes that it rules out, beside those of one station.
use Rattle.std.specs.Prelude.{ℕ, List, [], ◌∷◌, length, drop, replicate, Option, Some, None}
use Rattle.rules.specs.declared.message.Message.{Message}
use Rattle.table.specs.declared.table.Table.{Table}
use Rattle.steps.specs.declared.asked.Step.TheVariants.{Add, Draw, Send, Deliver, Lose}
use Rattle.table.specs.declared.stepped.Stepped.{Stepped}
use Rattle.pool.specs.declared.places.Place.{Place}
use Rattle.ground.specs.declared.told.Told.{Told}
use Rattle.table.specs.Table.{station_at, waiting_at, put_station}
use Rattle.pool.specs.Pool.{place_in}
use Rattle.pool.specs.Lent.{send_in_told, send_in_pool, lose_in_told, lose_in_pool}
use Rattle.table.specs.Fresh.{fresh_table_of}
use Rattle.steps.specs.Steps.{step_of}
use Rattle.table.specs.Way.{way_asked, stations_asked}
use Rattle.runs.specs.Again.{ten_shown}
use Rattle.demands.specs.Samples.{station1, token}
use Rattle.demands.specs.Wrong.{Wrong}

-- two stations; station 0 holds 10 and has sent its message to place 0
abbrev pub ten_sent : Table
ten_sent = (step_of (step_of (fresh_table_of 2).table (Add 0 10)).table (Send 0 1)).table

-- a table in which station 1 has a token of 5 for station 0, and no slot waits for it
abbrev stored : Table
stored = put_station (fresh_table_of 2).table 1 (station1 0 1 0 None (token 0 0 5))

abbrev waiting_number : Option Message → ℕ
waiting_number None = 0
waiting_number (Some m) = 1

-- answer, result, station 1's destination clock, and whether places 0 and 1 hold a message
abbrev seen : Stepped → List ℕ
seen r =
    r.answer ∷ r.result ∷ (station_at r.table 1).destination.0 ∷ waiting_number (waiting_at r.table 0) ∷ waiting_number (waiting_at r.table 1) ∷ []

-- answer, result, and the values of stations 0 and 1
abbrev values : Stepped → List ℕ
values r = r.answer ∷ r.result ∷ (station_at r.table 0).value ∷ (station_at r.table 1).value ∷ []

-- 64 empty places
abbrev free : List Place
free = replicate 64 (record { waiting = None })

-- answer, result, whether place 0 holds a message, and how many places there are
abbrev lent_seen : Told → List Place → List ℕ
lent_seen r pool = r.answer ∷ r.result ∷ waiting_number (place_in pool 0) ∷ length pool ∷ []

abbrev pub wrong_tables : List Wrong
wrong_tables =
    -- fresh_table: takes a count of 1; forgets the count
    record { promised = (fresh_table_of 1).answer ∷ []; wrong = 0 ∷ [] }
    ∷ record { promised = (fresh_table_of 2).answer ∷ (fresh_table_of 2).table.count ∷ []; wrong = 0 ∷ 0 ∷ [] }
    -- step: a delivery that opens no slot; a delivery that takes the message away
    ∷ record { promised = seen (step_of ten_sent (Deliver 0)); wrong = 0 ∷ 0 ∷ 0 ∷ 1 ∷ 0 ∷ [] }
    ∷ record { promised = seen (step_of ten_sent (Deliver 0)); wrong = 0 ∷ 0 ∷ 1 ∷ 0 ∷ 0 ∷ [] }
    -- step: a send into a place that is taken; a loss of the neighbour; a delivery from an empty
    -- place that is nodded to
    ∷ record { promised = seen (step_of ten_sent (Send 0 1)); wrong = 0 ∷ 0 ∷ 0 ∷ 1 ∷ 0 ∷ [] }
    ∷ record { promised = seen (step_of ten_sent (Lose 0)); wrong = 0 ∷ 0 ∷ 0 ∷ 1 ∷ 0 ∷ [] }
    ∷ record { promised = seen (step_of ten_sent (Deliver 1)); wrong = 0 ∷ 0 ∷ 0 ∷ 1 ∷ 0 ∷ [] }
    -- step: an add to the neighbour; a place past the pool that is empty and not missing
    ∷ record { promised = values (step_of ten_sent (Add 1 5)); wrong = 0 ∷ 15 ∷ 15 ∷ 0 ∷ [] }
    ∷ record { promised = seen (step_of ten_sent (Deliver 64)); wrong = 8 ∷ 0 ∷ 0 ∷ 1 ∷ 0 ∷ [] }
    -- step: a draw that takes less than it tells; of what is there where more is asked; that takes
    -- it where it is refused
    ∷ record { promised = values (step_of ten_sent (Draw 0 3)); wrong = 0 ∷ 10 ∷ 7 ∷ 0 ∷ [] }
    ∷ record { promised = values (step_of ten_sent (Draw 0 11)); wrong = 0 ∷ 10 ∷ 0 ∷ 0 ∷ [] }
    ∷ record { promised = values (step_of ten_sent (Draw 0 11)); wrong = 15 ∷ 0 ∷ 0 ∷ 0 ∷ [] }
    -- on_the_way: counts a stored token that no slot waits for; answers an unsound table
    ∷ record { promised = let r = way_asked stored in r.answer ∷ r.result ∷ []; wrong = 0 ∷ 5 ∷ [] }
    ∷ record { promised = (way_asked (fresh_table_of 1).table).answer ∷ []; wrong = 0 ∷ [] }
    -- at_stations: leaves the last station out; answers an unsound table
    ∷ record { promised = (stations_asked (step_of (fresh_table_of 2).table (Add 1 10)).table).result ∷ []; wrong = 0 ∷ [] }
    ∷ record { promised = (stations_asked (fresh_table_of 1).table).answer ∷ []; wrong = 0 ∷ [] }
    -- send_in, send_value: takes the highest empty place; takes a slice of 63 places for a pool
    ∷ record { promised = lent_seen (send_in_told free) (send_in_pool free ten_shown); wrong = 0 ∷ 63 ∷ 0 ∷ 64 ∷ [] }
    ∷ record { promised = lent_seen (send_in_told (drop 1 free)) (send_in_pool (drop 1 free) ten_shown); wrong = 0 ∷ 0 ∷ 1 ∷ 63 ∷ [] }
    -- lose_in, lose_value: leaves the message; nods at an empty place
    ∷ record { promised = let pool = send_in_pool free ten_shown in lent_seen (lose_in_told pool 0) (lose_in_pool pool 0); wrong = 0 ∷ 0 ∷ 1 ∷ 64 ∷ [] }
    ∷ record { promised = lent_seen (lose_in_told free 0) (lose_in_pool free 0); wrong = 0 ∷ 0 ∷ 0 ∷ 64 ∷ [] }
    ∷ []
