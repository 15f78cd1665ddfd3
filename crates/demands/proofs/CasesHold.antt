-- Every entry of the lists gives what it has to give, and no wrong outcome is what is promised.
-- Assumes nothing.
use Prim.Native.Nat.{ℕ}
use mathlib.Core.Path.{◌≡◌, refl}
use mathlib.Core.List.{[], ◌∷◌, ◌++◌, map}
use lib.Dec.{T}
use Rattle.ground.specs.Below.{all_below}
use Rattle.station.specs.Sound.{station_sound, message_sound}
use Rattle.rules.specs.Taking.{five_rules}
use Rattle.station.specs.Steps.{fresh_of, add_of, draw_of, show_of, receive_of}
use Rattle.record.specs.Numbers.{big, number_at}
use Rattle.record.specs.Fields.{bytes_of}
use Rattle.record.specs.Walk.{look, taken, step, ended, walk_from}
use Rattle.record.specs.Dateless.{record_of}
use Rattle.record.specs.Reading.{walked, is_record, no_reading, read_of}
use Rattle.record.specs.AtStation.{receive_bytes_of}
use Rattle.demands.specs.Cases.{Case, cases, printed}
use Rattle.demands.specs.Halves.{Halving, computed, halves}
use Rattle.demands.specs.Cuts.{cuts, cuts_told}
use Rattle.demands.specs.Wrong.{wrongs, ruled_out}

pub cases_hold : map (λ (c : Case). c.gives) cases ≡ map (λ (c : Case). c.wanted) cases
unfolding add_of receive_of five_rules station_sound message_sound all_below record_of bytes_of big number_at look taken step ended walk_from walked is_record read_of
cases_hold = refl

-- whatever the 31st byte is
pub extra_byte : (b : ℕ) → read_of (printed ++ (b ∷ [])) ≡ no_reading
unfolding record_of bytes_of big number_at look taken step ended walk_from walked is_record read_of message_sound
extra_byte b = refl

pub halves_hold : map computed halves ≡ map (λ (h : Halving). h.half) halves
halves_hold = refl

pub cuts_hold : cuts ≡ cuts_told
unfolding record_of bytes_of big number_at look taken step ended walk_from walked is_record read_of message_sound
cuts_hold = refl

pub wrongs_ruled_out : T (ruled_out wrongs)
unfolding fresh_of add_of draw_of show_of receive_of receive_bytes_of five_rules station_sound message_sound all_below record_of bytes_of big number_at look taken step ended walk_from walked is_record read_of
wrongs_ruled_out = tt
