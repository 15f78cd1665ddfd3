-- A station's closing line as it is put, and the room that is asked for the closing lines.
use Rattle.std.specs.Prelude.{ℕ, List}
use Rattle.station.specs.declared.station.Station.{Station}
use Rattle.script.specs.Decimal.{station_line}

-- room for 16 stations, the sum on the way and the total
abbrev pub closing_room : ℕ
closing_room = 2048

abbrev pub seat_line : ℕ → Station → List ℕ
seat_line k s = station_line k s.value s.source.0 s.destination.0
