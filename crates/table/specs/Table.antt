-- A table's parts.
use Rattle.std.specs.Prelude.{ℕ, List, [], get_or, set, Option}
use Rattle.rules.specs.declared.message.Message.{Message}
use Rattle.station.specs.declared.station.Station.{Station}
use Rattle.pool.specs.Pool.{place_in}
use Rattle.table.specs.declared.table.Table.{Table}

-- what is taken to stand past the end of the stations
abbrev pub station_past_end : Station
station_past_end = record { number = 0; count = 0; value = 0; intake = 0; source = record { 0 = 0 }; destination = record { 0 = 0 }; slots = []; tokens = [] }

abbrev pub station_in : List Station → ℕ → Station
station_in stations k = get_or stations k station_past_end

abbrev pub station_at : Table → ℕ → Station
station_at t k = station_in t.stations k

abbrev pub waiting_at : Table → ℕ → Option Message
waiting_at t p = place_in t.pool p

abbrev pub put_station : Table → ℕ → Station → Table
put_station t k s = record { count = t.count; stations = set t.stations k s; pool = t.pool }

abbrev pub put_place : Table → ℕ → Option Message → Table
put_place t p w = record { count = t.count; stations = t.stations; pool = set t.pool p (record { waiting = w }) }
