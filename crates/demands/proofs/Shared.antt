-- Bytes, stations and tables share their definitions: receiving a message's record is a delivery of
-- it, and the record that a station writes is the writing of the message that a send places.
-- Assumes nothing.
use Rattle.std.proofs.Common.{Some}
use Prim.Native.Nat.{ℕ, ◌<◌}
use mathlib.Core.Path.{◌≡◌, ap}
use mathlib.Core.Bool.{true}
use lib.ListN.{length}
use Rattle.station.specs.declared.station.Station.{Station}
use Rattle.rules.specs.declared.message.Message.{Message}
use Rattle.ground.specs.Limits.{most_stations}
use Rattle.station.specs.Sound.{message_sound}
use Rattle.station.specs.Steps.{show_answer, message_for, receive_of}
use Rattle.record.specs.Dateless.{record_of}
use Rattle.record.specs.AtStation.{receive_bytes_of}
use Rattle.record.proofs.Messages.{read_back}
use Rattle.steps.specs.declared.asked.Step.TheVariants.{Send, Deliver}
use Rattle.table.specs.declared.table.Table.{Table}
use Rattle.pool.specs.Pool.{most_places, lowest_empty}
use Rattle.table.specs.Table.{station_at, waiting_at}
use Rattle.table.specs.Sound.{table_sound}
use Rattle.steps.specs.Steps.{step_of}
use Rattle.table.proofs.Tables.{table_parts, waits}
use Rattle.steps.proofs.Same.{SameAt, deliver_same, send_same}

pub record_received : (s : Station) (m : Message) → message_sound m ≡ true → receive_bytes_of s (record_of m) ≡ receive_of s m
unfolding receive_bytes_of
record_received s m e = rw (read_back m e)

-- the record of the message that waits at a place, received by the station that it is for
pub record_delivered : (t : Table) → table_sound t ≡ true → length t.stations ≡ most_stations → (p : ℕ) (m : Message) → p < most_places → waiting_at t p ≡ Some m
    → SameAt t m.to (receive_bytes_of (station_at t m.to) (record_of m)) (step_of t (Deliver p))
record_delivered t sound full p m h e =
    let place = rw e at ((table_parts t sound).places p h) in
    rw (record_received (station_at t m.to) m (waits m t.count place).sound) (deliver_same t sound full p m h e)

-- what a station writes for another, and what its send places
pub record_sent : (t : Table) (from to : ℕ) → table_sound t ≡ true → length t.pool ≡ most_places → from < t.count → show_answer (station_at t from) to ≡ 0
    → lowest_empty t.pool < most_places → (m : Message) → waiting_at (step_of t (Send from to)).table (lowest_empty t.pool) ≡ Some m
    → record_of (message_for (station_at t from) to) ≡ record_of m
record_sent t from to sound full h a free m e =
    let w = (send_same t from to sound full h a free).waiting in
    let same : message_for (station_at t from) to ≡ m = cc in
    ap record_of same
