-- What is put into a sound table leaves it sound, and what a step of a seated station leaves may be
-- put there. Assumes nothing.
use Rattle.std.proofs.Common.{Option, Some}
use Prim.Native.Nat.{ℕ, ◌<◌}
use mathlib.Core.Path.{◌≡◌, ◌∙◌}
use mathlib.Core.Bool.{true, or-true}
use native.Mathlib.Omega.{arith}
use borrow.Author.Tests.{lt-ltb, eq-eqb}
use Rattle.station.specs.declared.station.Station.{Station}
use Rattle.rules.specs.declared.message.Message.{Message}
use Rattle.station.specs.Sound.{station_sound}
use Rattle.station.specs.Steps.{show_of, receive_of}
use Rattle.station.proofs.Answering.{shown}
use Rattle.station.proofs.Keeps.{receive_keeps, receive_seat, message_sound_lem}
use Rattle.pool.specs.declared.places.Place.{Place}
use Rattle.table.specs.declared.table.Table.{Table}
use Rattle.table.specs.Table.{station_at, put_station, put_place}
use Rattle.table.specs.Sound.{seat_sound, place_sound}
use Rattle.ground.proofs.Stores.{stored}
use Rattle.table.proofs.Tables.{Seated, Waits, SoundTable, seated}

-- in a sound table a station below the count is seated; and back: a seat, and a place with a
-- message of the table, are sound
pub seat_of_lem : {t : Table} → SoundTable t → (k : ℕ) → k < t.count → Seated (station_at t k) k t.count
seat_of_lem {t} w k h = seated (station_at t k) k t.count h (w.seats k (omega (arith, w.most)))

seat_whole : {s : Station} {k n : ℕ} → Seated s k n → seat_sound s k n ≡ true
seat_whole w = rw (w.sound, eq-eqb _ _ w.number, eq-eqb _ _ w.count, or-true)

pub place_whole : {m : Message} {n : ℕ} → Waits m n → place_sound (Some m) n ≡ true
place_whole w = rw (w.sound, lt-ltb _ _ w.from, lt-ltb _ _ w.to)

-- a step at a station leaves it at its number
pub moved : {s x : Station} {k n : ℕ} → Seated s k n → station_sound x ≡ true → (x.number ≡ s.number) × (x.count ≡ s.count) → Seated x k n
moved w e same = record { sound = e; number = same.0 ∙ w.number; count = same.1 ∙ w.count }

pub receive_seated : {s : Station} {k n : ℕ} → Seated s k n → (m : Message) → Seated (receive_of s m).station k n
receive_seated {s} w m = let same = receive_seat s m in moved w (receive_keeps s m w.sound) (same.0, same.1)

-- a message that is shown is the station's own, and may wait in its table
pub show_waits : {s : Station} {k n : ℕ} → Seated s k n → (to : ℕ) → k < n → (show_of s to).answer ≡ 0 → Waits (show_of s to).message n
unfolding show_of
show_waits {s} w to h e =
    let peer = shown s to e in
    rw e (record { sound = message_sound_lem s to e; from = omega (arith, w.number); to = omega (arith, w.count, peer.below) })

-- a sound table stays one where a seated station is put at its number, or at a place what is sound
-- there
pub put_station_lem : {t : Table} (k : ℕ) {s : Station} → SoundTable t → Seated s k t.count → SoundTable (put_station t k s)
put_station_lem {t} k w new =
    record {
      least = w.least;
      most = w.most;
      seats = λ j h. stored (λ (x : Station). seat_sound x j t.count ≡ true) t.stations k j _ (λ e. rw e (seat_whole new)) (w.seats j h);
      places = w.places;
    }

pub put_place_lem : {t : Table} (p : ℕ) (v : Option Message) → SoundTable t → place_sound v t.count ≡ true → SoundTable (put_place t p v)
put_place_lem {t} p v w new =
    record {
      least = w.least;
      most = w.most;
      seats = w.seats;
      places = λ j h. stored (λ (x : Place). place_sound x.waiting t.count ≡ true) t.pool p j _ (λ e. new) (w.places j h);
    }
