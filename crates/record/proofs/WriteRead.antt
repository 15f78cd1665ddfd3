-- Told and read: the first bytes of a buffer after a write that was done, as many as its result
-- says, read back as the message; and bytes that were lent to a reading and accepted are what
-- writing their message gives. Assumes nothing.
use Prim.Native.Nat.{ℕ, zero, suc}
use mathlib.Core.Path.{◌≡◌, refl, sym, ◌∙◌}
use mathlib.Core.Bool.{true, not}
use mathlib.Core.List.{List, ◌++◌}
use native.Mathlib.Omega.{arith}
use lib.ListN.{length, get_or, take, drop}
use lib.Seq.{take-append_seam}
use borrow.Author.Tests.{not-false}
use mir.Syntax.{w8}
use mir.Val.{Fits}
use Rattle.station.specs.declared.station.Station.{Station}
use Rattle.rules.specs.declared.message.Message.{Message}
use Rattle.ground.specs.Refusals.{Refusal, answer_of}
use Rattle.station.specs.Sound.{message_sound}
use Rattle.station.specs.Steps.{show_refusals, message_for}
use Rattle.ground.proofs.Refusing.{passed, answer_before}
use Rattle.station.proofs.Keeps.{message_sound_lem}
use Rattle.record.specs.declared.reading.Reading.{Reading}
use Rattle.ground.specs.declared.told.Told.{Told}
use Rattle.record.specs.Dateless.{record_of}
use Rattle.record.specs.Reading.{read_of}
use Rattle.record.specs.Writing.{Writes, write_answer}
use Rattle.record.specs.AtStation.{room_refusals, write_for_answer}
use Rattle.record.proofs.Messages.{read_back, exact, is_record_lem}

-- a write that is done puts all its bytes in front, and tells how many
pub record Put (answer : ℕ) (bytes : List ℕ) (r : Told) (after : List ℕ) : Type 0 where
  pub done : answer ≡ 0
  pub result : r.result ≡ length bytes
  pub front : take r.result after ≡ bytes

put : (n : ℕ) (bytes before : List ℕ) (r : Told) (after : List ℕ) → Writes n bytes before r after → r.answer ≡ 0 → Put n bytes r after
put zero bytes before r after w e =
    record { done = refl; result = rw w.told; front = rw (w.told, w.buffer) (take-append_seam bytes (drop (length bytes) before)) }
put (suc n) bytes before r after w e = let x : suc n ≡ 0 = rw w.told at e in absurd (omega arith)

-- what reading the first `result` bytes gives
abbrev pub ReadsBack : Message → Told → List ℕ → Type 0
ReadsBack m r after = read_of (take r.result after) ≡ record { answer = 0; result = r.result; message = m }

reads_back : (m : Message) (n : ℕ) (r : Told) (after : List ℕ) → message_sound m ≡ true → Put n (record_of m) r after → ReadsBack m r after
reads_back m n r after sound p = rw (p.front, p.result) (read_back m sound)

-- of a given message, with what `write` promises
pub written_reads_back : (m : Message) (before : List ℕ) (r : Told) (after : List ℕ)
    → Writes (write_answer m (length before)) (record_of m) before r after → r.answer ≡ 0 → ReadsBack m r after
written_reads_back m before r after w e =
    let p = put (write_answer m (length before)) (record_of m) before r after w e in
    reads_back m _ r after (not-false _ (passed (not (message_sound m)) _ p.done).0) p

-- where nothing refuses, no earlier condition does
none_before : (xs ys : List Refusal) → answer_of (xs ++ ys) ≡ 0 → answer_of xs ≡ 0
none_before xs ys e = by (answer_of xs) refl
  where
    by : (n : ℕ) → answer_of xs ≡ n → answer_of xs ≡ 0
    by zero z = z
    by (suc n) z = sym (answer_before xs ys (λ f. omega arith)) ∙ e

-- of a station's message for another, with what `write_message` promises
pub message_reads_back : (s : Station) (to : ℕ) (before : List ℕ) (r : Told) (after : List ℕ)
    → Writes (write_for_answer s to (length before)) (record_of (message_for s to)) before r after → r.answer ≡ 0 → ReadsBack (message_for s to) r after
message_reads_back s to before r after w e =
    let p = put (write_for_answer s to (length before)) (record_of (message_for s to)) before r after w e in
    reads_back (message_for s to) _ r after (message_sound_lem s to (none_before (show_refusals s to) (room_refusals s to (length before)) p.done)) p

-- What a lent `&[u8]` holds are bytes: this is the type's own fact, which every function that looks
-- into the slice is given (`shared-slice-known`), and asks nothing of a caller.
abbrev pub HeldAsU8 : List ℕ → Type 0
HeldAsU8 bytes = (k : ℕ) → Fits w8 (get_or bytes k 0)

-- with what `read` promises
pub accepted_is_written : (bytes : List ℕ) (r : Reading) → HeldAsU8 bytes → r ≡ read_of bytes → r.answer ≡ 0 → record_of r.message ≡ bytes
accepted_is_written bytes r u e z = rw e (sym (exact bytes (is_record_lem bytes (rw e at z)) (λ k. (u k).fits)))
