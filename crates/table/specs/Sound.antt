-- When a table is sound: its count, stations and messages are, each station carries its own place
-- as number and the table's count, and every from and to is below the count.
use Rattle.std.specs.Prelude.{ℕ, Bool, true, not, ◌&&◌, ◌||◌, ltb, leb, eqb, Option, Some, None}
use Rattle.rules.specs.declared.message.Message.{Message}
use Rattle.station.specs.declared.station.Station.{Station}
use Rattle.ground.specs.Answers.{not_sound}
use Rattle.ground.specs.Limits.{most_stations}
use Rattle.ground.specs.Refusals.{Refusal, when}
use Rattle.ground.specs.Below.{all_below}
use Rattle.station.specs.Sound.{count_sound, station_sound, message_sound}
use Rattle.table.specs.declared.table.Table.{Table}
use Rattle.pool.specs.Pool.{most_places}
use Rattle.table.specs.Table.{station_at, waiting_at}

-- station s at number k of a table of count stations; past the count anything may stand
abbrev pub seat_sound : Station → ℕ → ℕ → Bool
seat_sound s k count = leb count k || (station_sound s && eqb s.number k && eqb s.count count)

abbrev pub place_sound : Option Message → ℕ → Bool
place_sound None count = true
place_sound (Some m) count = message_sound m && ltb m.from count && ltb m.to count

unfoldable pub table_sound : Table → Bool
table_sound t =
    count_sound t.count && all_below (λ k. seat_sound (station_at t k) k t.count) most_stations
    && all_below (λ p. place_sound (waiting_at t p) t.count) most_places

-- the table lent is not sound
abbrev pub unsound : Table → Refusal
unsound t = when (not (table_sound t)) not_sound
