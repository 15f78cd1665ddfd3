-- The refusals of receiving bytes, in their order: 1, then 9 where the bytes are no record, then
-- those of receiving the message. Assumes nothing.
use mathlib.Core.Path.{◌≡◌, refl, ap, ◌∙◌}
use mathlib.Core.List.{List}
use mathlib.Core.Bool.{true, false}
use Prim.Native.Nat.{ℕ}
use Rattle.station.specs.declared.station.Station.{Station}
use Rattle.ground.specs.Answers.{not_sound, no_record}
use Rattle.ground.specs.Refusals.{answer_of}
use Rattle.ground.proofs.Tests.{by_test}
use Rattle.station.specs.declared.outcome.Outcome.{Outcome}
use Rattle.station.specs.Outcome.{refused}
use Rattle.station.specs.Sound.{station_sound}
use Rattle.station.specs.Steps.{receive_of}
use Rattle.station.proofs.Answering.{receive_tells}
use Rattle.station.proofs.Keeps.{empty_unsound}
use Rattle.record.specs.Reading.{is_record, read_of, read_refusals}
use Rattle.record.proofs.Messages.{refused_whole, accepted_whole, accepted_sound}
use Rattle.record.specs.AtStation.{receive_bytes_of, receive_bytes_refusals}

module _ (s : Station) (bytes : List ℕ) where
  pub unsound_first : station_sound s ≡ false → receive_bytes_of s bytes ≡ refused not_sound s
  unfolding receive_bytes_of receive_of
  unsound_first e = rw e

  pub no_record_next : station_sound s ≡ true → is_record bytes ≡ false → receive_bytes_of s bytes ≡ refused no_record s
  unfolding receive_bytes_of receive_of
  no_record_next e f = rw (refused_whole bytes f, e, empty_unsound)

  pub then_received : receive_bytes_of s bytes ≡ receive_of s (read_of bytes).message
  unfolding receive_bytes_of
  then_received = refl

-- reading tells 9 exactly where the bytes are no record
pub read_tells : (bytes : List ℕ) → (read_of bytes).answer ≡ answer_of (read_refusals bytes)
read_tells bytes = by_test (is_record bytes) (λ e. rw (e, accepted_whole bytes e)) (λ e. rw (e, refused_whole bytes e))

-- receiving bytes answers by its list
pub receive_bytes_tells : (s : Station) (bytes : List ℕ) → (receive_bytes_of s bytes).answer ≡ answer_of (receive_bytes_refusals s bytes)
receive_bytes_tells s bytes =
    by_test (is_record bytes)
    (λ f. ap (λ (o : Outcome). o.answer) (then_received s bytes) ∙ receive_tells s (read_of bytes).message ∙ rw (f, accepted_sound bytes f))
    (λ f.
    by_test (station_sound s) (λ e. ap (λ (o : Outcome). o.answer) (no_record_next s bytes e f) ∙ rw (e, f))
    (λ e. ap (λ (o : Outcome). o.answer) (unsound_first s bytes e) ∙ rw e))
