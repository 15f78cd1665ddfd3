-- Writing the message that a station shows. Assumes nothing.
use Prim.Native.Nat.{ℕ}
use mathlib.Core.Path.{◌≡◌, ap, sym, subst}
use mathlib.Core.List.{List}
use lib.ListN.{length}
use borrow.Author.Tests.{lt-ltb, ne_eqb}
use Rattle.ground.specs.declared.refusal.Refusal.{Refusal}
use Rattle.ground.specs.Tested.{number_of}
use Rattle.ground.proofs.Tested.{refuses}
use Rattle.ground.proofs.Refusing.{answer_before}
use Rattle.ground.proofs.Choices.{when_refused}
use Rattle.station.specs.declared.station.Station.{Station}
use Rattle.station.specs.Steps.{show_refusals, show_answer, showing, show_of, message_for}
use Rattle.station.proofs.Answering.{shown}
use Rattle.station.proofs.Keeps.{message_sound_lem}
use Rattle.record.specs.Dateless.{record_of}
use Rattle.record.specs.Writing.{in_front, Writes, write_answer}
use Rattle.record.specs.AtStation.{room_refusals, write_for_answer, WritesFor}

pub shows : (s : Station) (to : ℕ) → show_answer s to ≡ 0 → (show_of s to).message ≡ message_for s to
unfolding show_of
shows s to e = ap (λ (n : ℕ). (showing n (message_for s to)).message) e

refusing : (n : ℕ) (bytes before : List ℕ) → (n ≡ 0 → ⊥) → Writes n bytes before (record { answer = n; result = 0 }) before
refusing n bytes before f =
    record { told = ap (λ (k : ℕ). record { answer = n; result = k }) (when_refused n (length bytes) 0 f); buffer = when_refused n (in_front bytes before) before f }

pub refused_writes : (r : Refusal) (bytes before : List ℕ) → Writes (number_of r) bytes before (record { answer = number_of r; result = 0 }) before
refused_writes r bytes before =
    record { told = ap (λ (k : ℕ). record { answer = number_of r; result = k }) (sym (refuses r (length bytes) 0)); buffer = sym (refuses r (in_front bytes before) before) }

-- where nothing is shown, nothing is written
pub writes_nothing : (s : Station) (to : ℕ) (before : List ℕ) → (show_answer s to ≡ 0 → ⊥)
    → WritesFor s to before (record { answer = show_answer s to; result = 0 }) before
writes_nothing s to before f =
    subst (λ (n : ℕ). Writes n (record_of (message_for s to)) before (record { answer = show_answer s to; result = 0 }) before)
    (sym (answer_before (show_refusals s to) (room_refusals s to (length before)) f)) (refusing (show_answer s to) (record_of (message_for s to)) before f)

-- what is shown is sound, so writing it is refused by 14 alone
pub writes_shown : (s : Station) (to room : ℕ) → show_answer s to ≡ 0 → write_answer (message_for s to) room ≡ write_for_answer s to room
writes_shown s to room e =
    let p = shown s to e in
    rw (message_sound_lem s to e, p.sound, lt-ltb to s.count p.below, ne_eqb to s.number p.other)
