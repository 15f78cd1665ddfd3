-- The lists of a run's table keep their lengths: 16 stations, 64 places, and at each station 16
-- slots and 16 tokens. Assumes nothing.
use Rattle.std.proofs.Common.{Option}
use Prim.Native.Nat.{ℕ, ◌<◌}
use mathlib.Core.Path.{◌≡◌, ◌∙◌}
use Rattle.rules.specs.declared.message.Message.{Message}
use lib.ListN.{length, length-set}
use Rattle.ground.specs.Limits.{most_stations}
use Rattle.station.specs.Side.{put_side}
use Rattle.station.specs.Steps.{put_stock}
use Rattle.rules.specs.declared.side.Side.{Side}
use Rattle.station.specs.declared.station.Station.{Station}
use Rattle.ground.proofs.Stores.{stored}
use Rattle.pool.specs.Pool.{most_places}
use Rattle.table.specs.Table.{station_at, put_station, put_place}
use Rattle.table.specs.declared.table.Table.{Table}

pub record FullStation (s : Station) : Type 0 where
  pub slots : length s.slots ≡ most_stations
  pub tokens : length s.tokens ≡ most_stations

pub record Full (t : Table) : Type 0 where
  pub stations : length t.stations ≡ most_stations
  pub pool : length t.pool ≡ most_places
  pub each : (k : ℕ) → k < t.count → FullStation (station_at t k)

pub side_full : {s : Station} (j : ℕ) (x : Side) → FullStation s → FullStation (put_side s j x)
side_full {s} j x f =
    record {
      slots = length-set s.slots j (record { held = x.slot }) ∙ f.slots;
      tokens = length-set s.tokens j (record { held = x.token }) ∙ f.tokens;
    }

pub stock_full : {s : Station} (value intake : ℕ) → FullStation s → FullStation (put_stock s value intake)
stock_full value intake f = record { slots = f.slots; tokens = f.tokens }

pub station_full : {t : Table} (k : ℕ) {s : Station} → Full t → FullStation s → Full (put_station t k s)
station_full {t} k {s} f g =
    record {
      stations = length-set t.stations k s ∙ f.stations;
      pool = f.pool;
      each = λ j h. stored FullStation t.stations k j _ (λ e. g) (f.each j h);
    }

pub place_full : {t : Table} (p : ℕ) (w : Option Message) → Full t → Full (put_place t p w)
place_full {t} p w f = record { stations = f.stations; pool = length-set t.pool p (record { waiting = w }) ∙ f.pool; each = f.each }
