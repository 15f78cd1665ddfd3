-- Document 01's record: its table is clear, its bodies are its messages, its tests are a message's
-- soundness; and so both round trips. Assumes nothing.
use Rattle.std.proofs.Common.{Option, Some, None}
use Prim.Native.Nat.{ℕ, ◌≤◌}
use mathlib.Core.Path.{◌≡◌, refl, ap, sym, subst, ◌∙◌}
use mathlib.Core.Logic.{◌⊎◌, inl, inr, ⊎_elim}
use mathlib.Core.List.{List, [], ◌∷◌, ◌++◌}
use mathlib.Core.Bool.{true, false, not, and-false}
use native.Mathlib.Omega.{arith}
use Rattle.rules.specs.declared.held.Token.{Token}
use Rattle.rules.specs.declared.held.Slot.{Slot}
use lib.ListN.{length}
use lib.Dec.{leb, eqb}
use borrow.Author.Tests.{leb-true}
use Rattle.ground.specs.declared.clocks.SourceClock.{SourceClock}
use Rattle.ground.specs.declared.clocks.DestinationClock.{DestinationClock}
use Rattle.rules.specs.declared.message.Message.{Message}
use Rattle.ground.specs.Limits.{last_clock, most_value}
use Rattle.station.specs.Sound.{slot_sound, token_sound, message_sound}
use Rattle.record.specs.declared.reading.Reading.{Reading}
use Rattle.record.specs.Numbers.{Bytes}
use Rattle.record.specs.Fields.{Body, missing, body, body_at, number_of, bytes_of, May, Content, clear}
use Rattle.record.specs.Walk.{Walk, going, stopped, walk}
use Rattle.record.specs.Dateless.{slot_in, token_in, slot_field, token_field, slot_body, token_body, dateless, bodies_of, message_in, record_of}
use Rattle.record.specs.Reading.{walked_of, walked, is_record, no_reading, reading_of, read_of}
use Rattle.ground.proofs.Tests.{needed, not_allowed, at_most, below, by_test, both_hold}
use Rattle.record.proofs.AnyTable.{reads_back, exactly}
use Rattle.record.proofs.Passed.{Passes, Passed, went}
use Rattle.record.proofs.Again.{remade, same_again}
use Rattle.record.proofs.Whole.{slot_back, token_back}

pub table_clear : clear dateless ≡ true
table_clear = refl

-- a slot or a token that is sound may be held, beside the clocks read before
slot_may : (h : Option Slot) (before : List Body) (clock : DestinationClock) → slot_sound h clock ≡ true → clock.0 ≤ last_clock → number_of before 3 1 ≡ clock.0 → May slot_field before (slot_body h)
slot_may None before clock o c e = refl
slot_may (Some l) before clock o c e =
    let s = at_most l.source.0 last_clock (λ g. simp (g, and-false) at o) in
    let d = below l.destination.0 clock.0 (λ g. simp (g, and-false) at o) in
    let q = at_most l.quantity most_value (λ g. simp (g, and-false) at o) in
    ((omega arith, (omega arith, (omega arith, tt))), rw e o)

token_may : (h : Option Token) (before : List Body) (clock : SourceClock) → token_sound h clock ≡ true → clock.0 ≤ last_clock → number_of before 3 0 ≡ clock.0 → May token_field before (token_body h)
token_may None before clock o c e = refl
token_may (Some t) before clock o c e =
    let d = at_most t.destination.0 last_clock (λ g. simp (g, and-false) at o) in
    let s = below t.source.0 clock.0 (λ g. simp (g, and-false) at o) in
    let q = at_most t.quantity most_value (λ g. simp g at o) in
    ((omega arith, (omega arith, (omega arith, tt))), rw e o)

-- the bodies that stand before the slot's
abbrev before_slot : Message → List Body
before_slot m =
    body (m.from ∷ []) ∷ body (m.to ∷ []) ∷ body (m.value ∷ []) ∷ body (m.source.0 ∷ m.destination.0 ∷ []) ∷ []

-- a sound message may be held by a record
pub content : (m : Message) → message_sound m ≡ true → Content dateless [] (bodies_of m)
unfolding message_sound
content m o =
    let f = needed (leb m.from 15) (λ g. simp g at o) in
    let f' = leb-true m.from 15 f in
    let t = needed (leb m.to 15) (λ g. simp (g, and-false) at o) in
    let t' = leb-true m.to 15 t in
    let n = not_allowed (eqb m.from m.to) (λ g. sym (simp (g, and-false) at o)) in
    let v = needed (leb m.value most_value) (λ g. simp (g, and-false) at o) in
    let v' = leb-true m.value most_value v in
    let s' = needed (leb m.source.0 last_clock) (λ g. simp (g, and-false) at o) in
    let s = leb-true m.source.0 last_clock s' in
    let d' = needed (leb m.destination.0 last_clock) (λ g. simp (g, and-false) at o) in
    let d = leb-true m.destination.0 last_clock d' in
    let l = needed (slot_sound m.slot m.destination) (λ g. simp (g, and-false) at o) in
    let k = needed (token_sound m.token m.source) (λ g. simp (g, and-false) at o) in (
      ((omega arith, tt), f),
      (
        ((omega arith, tt), rw (t, n)),
        (
          ((omega arith, tt), v),
          (
            ((omega arith, (omega arith, tt)), rw (s', d')),
            (
              slot_may m.slot (before_slot m) m.destination l d refl,
              (
                token_may m.token (before_slot m ++ (slot_body m.slot ∷ [])) m.source k s refl,
                tt,
              ),
            ),
          ),
        ),
      ),
    )

-- and what has passed the table's tests is a sound message
slot_sound_lem : (before : List Body) (b : Body) → Passes slot_field before b → slot_sound (slot_in b) (record { 0 = number_of before 3 1 }) ≡ true
slot_sound_lem before missing m = refl
slot_sound_lem before (body n) m = m.1

token_sound_lem : (before : List Body) (b : Body) → Passes token_field before b → token_sound (token_in b) (record { 0 = number_of before 3 0 }) ≡ true
token_sound_lem before missing m = refl
token_sound_lem before (body n) m = m.1

pub sound_of : (m : Message) → Passed dateless [] (bodies_of m) → message_sound m ≡ true
unfolding message_sound
sound_of m p =
    let to = both_hold (leb m.to 15) (not (eqb m.from m.to)) p.1.0.1 in
    let slot : slot_sound m.slot m.destination ≡ true = rw (← slot_back m.slot) (slot_sound_lem (before_slot m) (slot_body m.slot) p.1.1.1.1.0) in
    let token : token_sound m.token m.source ≡ true = rw (← token_back m.token) (token_sound_lem (before_slot m ++ (slot_body m.slot ∷ [])) (token_body m.token) p.1.1.1.1.1.0) in
    rw (p.0.1, to.0, to.1, p.1.1.0.1, p.1.1.1.0.1, slot, token)

message_back : (m : Message) → message_in (bodies_of m) ≡ m
message_back m = rw (slot_back m.slot, token_back m.token)

slot_again_lem : (b : Body) → remade (4 ∷ 4 ∷ 8 ∷ []) b ≡ slot_body (slot_in b)
slot_again_lem missing = refl
slot_again_lem (body n) = refl

token_again : (b : Body) → remade (4 ∷ 4 ∷ 8 ∷ []) b ≡ token_body (token_in b)
token_again missing = refl
token_again (body n) = refl

bodies_back : (bodies : List Body) → Passed dateless [] bodies → bodies ≡ bodies_of (message_in bodies)
bodies_back bodies p = same_again dateless [] bodies p ∙ rw (slot_again_lem (body_at bodies 4), token_again (body_at bodies 5))

-- what is written for a sound message reads back as that message, with its length
pub read_back : (m : Message) → message_sound m ≡ true → read_of (record_of m) ≡ record { answer = 0; result = length (record_of m); message = m }
unfolding read_of walked record_of
read_back m o = rw (reads_back dateless (bodies_of m) table_clear (content m o), message_back m)

-- what reading told, and what it read
pub record Accepted (bytes : List ℕ) : Type 0 where
  pub bodies : List Body
  pub reads : walk dateless bytes ≡ going (length bytes) bodies
  pub tests : Passed dateless [] bodies

pub accepted : (bytes : List ℕ) → is_record bytes ≡ true → Accepted bytes
unfolding is_record
accepted bytes e = by (walk dateless bytes) refl where
  by : (w : Walk) → walk dateless bytes ≡ w → Accepted bytes
  by (going end bodies) f =
      let r = went bytes end bodies dateless 0 [] f in
      record { bodies = bodies; reads = f ∙ ap (λ (n : ℕ). going n bodies) r.whole; tests = rw (← r.all) at r.tests }
  by (stopped n p) f = let x : false ≡ true = rw f at e in let z : ◌≡◌ {A = ℕ} 0 1 = cc in absurd (omega arith)

pub refused_whole : (bytes : List ℕ) → is_record bytes ≡ false → read_of bytes ≡ no_reading
unfolding is_record read_of walked
refused_whole bytes e = by (walk dateless bytes) refl where
  by : (w : Walk) → walk dateless bytes ≡ w → reading_of (walked_of (walk dateless bytes)) ≡ no_reading
  by (going end bodies) f = let x : true ≡ false = rw f at e in let z : ◌≡◌ {A = ℕ} 0 1 = cc in absurd (omega arith)
  by (stopped k p) f = rw f

module _ (bytes : List ℕ) (e : is_record bytes ≡ true) where
  pub accepted_whole : read_of bytes ≡ record { answer = 0; result = length bytes; message = message_in (accepted bytes e).bodies }
  unfolding read_of walked
  accepted_whole = rw (accepted bytes e).reads

  message_is : (read_of bytes).message ≡ message_in (accepted bytes e).bodies
  message_is = ap (λ (r : Reading). r.message) accepted_whole

  -- accepted means sound
  pub accepted_sound : message_sound (read_of bytes).message ≡ true
  accepted_sound =
      let a = accepted bytes e in
      rw message_is (sound_of (message_in a.bodies) (subst (Passed dateless []) (bodies_back a.bodies a.tests) a.tests))

  -- bytes accepted as a message are exactly those that writing it gives
  pub exact : Bytes bytes → bytes ≡ record_of (read_of bytes).message
  unfolding record_of
  exact b =
      let a = accepted bytes e in
      rw message_is ((exactly bytes dateless (length bytes) a.bodies b a.reads).0.form ∙ ap (bytes_of dateless) (bodies_back a.bodies a.tests))

-- document 01's sentence: bytes are a record exactly if they have the form and their message is
-- sound
pub record HasForm (bytes : List ℕ) : Type 0 where
  pub message : Message
  pub sound : message_sound message ≡ true
  pub form : bytes ≡ record_of message

accepts : (m : Message) → message_sound m ≡ true → is_record (record_of m) ≡ true
unfolding is_record record_of
accepts m o = rw (reads_back dateless (bodies_of m) table_clear (content m o))

pub exactly_if : (bytes : List ℕ) → Bytes bytes → (is_record bytes ≡ true → HasForm bytes) × (HasForm bytes → is_record bytes ≡ true)
exactly_if bytes b = (
  λ e. record { message = (read_of bytes).message; sound = accepted_sound bytes e; form = exact bytes e b },
  λ h. rw h.form (accepts h.message h.sound),
)

-- the answer is 0 or 9, and 0 exactly if the bytes are a record
pub two_answers : (bytes : List ℕ) → (((read_of bytes).answer ≡ 0) × (is_record bytes ≡ true)) ⊎ (((read_of bytes).answer ≡ 9) × (is_record bytes ≡ false))
two_answers bytes =
    by_test (is_record bytes) (λ e. inl (ap (λ (r : Reading). r.answer) (accepted_whole bytes e), e))
    (λ e. inr (ap (λ (r : Reading). r.answer) (refused_whole bytes e), e))

pub is_record_lem : (bytes : List ℕ) → (read_of bytes).answer ≡ 0 → is_record bytes ≡ true
is_record_lem bytes z = ⊎_elim (λ w. w.1) (λ w. absurd (omega arith)) (two_answers bytes)

-- no two byte lists are accepted as one message
pub one_record : (a b : List ℕ) → Bytes a → Bytes b → is_record a ≡ true → is_record b ≡ true → (read_of a).message ≡ (read_of b).message → a ≡ b
one_record a b p q e f same = exact a e p ∙ ap record_of same ∙ sym (exact b f q)
