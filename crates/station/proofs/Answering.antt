-- Answers looked for in order, and what follows where the answer is 0. Assumes nothing.
use Prim.Native.Nat.{ℕ, ◌+◌, ◌-◌, ◌<◌, ◌≤◌}
use mathlib.Core.Path.{◌≡◌, refl}
use mathlib.Core.Bool.{true, not}
use lib.Dec.{ltb, eqb}
use borrow.Author.Tests.{ltb-true, ltb-false, not-false, eqb-true, eqb-false}
use Rattle.rules.specs.declared.message.Message.{Message}
use Rattle.ground.specs.Limits.{most_intake, most_value}
use Rattle.rules.specs.Report.{no_report}
use Rattle.ground.specs.Refusals.{answer_of}
use Rattle.rules.specs.Stock.{amount_sound}
use Rattle.rules.specs.Rules.{fill}
use Rattle.rules.specs.Taking.{five_rules}
use Rattle.ground.proofs.Tests.{both_hold}
use Rattle.ground.proofs.Refusing.{passed}
use Rattle.ground.proofs.Choices.{answer_told}
use Rattle.station.specs.declared.station.Station.{Station}
use Rattle.station.specs.declared.outcome.Outcome.{Outcome}
use Rattle.station.specs.Side.{side_for}
use Rattle.station.specs.Sound.{station_sound, message_sound}
use Rattle.station.specs.Steps.{told, blank, put_stock, ends_below, received as take_in, fresh_refusals, add_refusals, draw_refusals, show_refusals, receive_refusals, fresh_answer, add_answer, draw_answer, show_answer, meet_answer, receive_answer, fresh_of, add_of, draw_of, show_of, receive_of}

-- what an add that is done has room for
pub record Added (s : Station) (amount : ℕ) : Type 0 where
  pub sound : station_sound s ≡ true
  pub intake : s.intake + amount ≤ most_intake
  pub value : s.value + amount ≤ most_value

pub added : (s : Station) (amount : ℕ) → add_answer s amount ≡ 0 → Added s amount
added s amount e =
    let one = passed (not (station_sound s)) _ e in
    let two = passed (not (amount_sound amount)) _ one.1 in
    let three = passed (ltb most_intake (s.intake + amount)) _ two.1 in
    let four = passed (ltb most_value (s.value + amount)) _ three.1 in
    record { sound = not-false _ one.0; intake = ltb-false _ _ three.0; value = ltb-false _ _ four.0 }

-- a message that is shown is for another station of the table
pub record Peer (s : Station) (k : ℕ) : Type 0 where
  pub sound : station_sound s ≡ true
  pub below : k < s.count
  pub other : k ≡ s.number → ⊥

pub shown : (s : Station) (to : ℕ) → show_answer s to ≡ 0 → Peer s to
shown s to e =
    let one = passed (not (station_sound s)) _ e in
    let two = passed (not (ltb to s.count)) _ one.1 in
    let three = passed (eqb to s.number) _ two.1 in
    record { sound = not-false _ one.0; below = ltb-true _ _ (not-false _ two.0); other = eqb-false _ _ three.0 }

-- what a message that the rules see has passed
pub record Met (s : Station) (m : Message) : Type 0 where
  pub sound : station_sound s ≡ true
  pub message : message_sound m ≡ true
  pub ends : ends_below s m ≡ true
  pub to : m.to ≡ s.number

pub met : (s : Station) (m : Message) → meet_answer s m ≡ 0 → Met s m
met s m e =
    let one = passed (not (station_sound s)) _ e in
    let two = passed (not (message_sound m)) _ one.1 in
    let three = passed (not (ends_below s m)) _ two.1 in
    let four = passed (not (eqb m.to s.number)) _ three.1 in
    record {
      sound = not-false _ one.0;
      message = not-false _ two.0;
      ends = not-false _ three.0;
      to = eqb-true _ _ (not-false _ four.0);
    }

-- what a message that is received has passed
pub record Received (s : Station) (m : Message) : Type 0 where
  pub sound : station_sound s ≡ true
  pub message : message_sound m ≡ true
  pub from : m.from < s.count
  pub to : m.to ≡ s.number
  pub room : (fill (side_for s m.from) m).side.value ≤ most_value

pub received : (s : Station) (m : Message) → receive_answer s m ≡ 0 → Received s m
received s m e =
    let one = passed (not (station_sound s)) _ e in
    let two = passed (not (message_sound m)) _ one.1 in
    let three = passed (not (ends_below s m)) _ two.1 in
    let four = passed (not (eqb m.to s.number)) _ three.1 in
    let five = passed (ltb most_value (fill (side_for s m.from) m).side.value) _ four.1 in
    record {
      sound = not-false _ one.0;
      message = not-false _ two.0;
      from = ltb-true _ _ (both_hold (ltb m.from s.count) _ (not-false _ three.0)).0;
      to = eqb-true _ _ (not-false _ four.0);
      room = ltb-false _ _ five.0;
    }

-- an entry point tells the answer that was found
pub fresh_tells : (number count : ℕ) → (fresh_of number count).answer ≡ answer_of (fresh_refusals number count)
unfolding fresh_of
fresh_tells number count = answer_told (λ (o : Outcome). o.answer) (fresh_answer number count) (told 0 no_report (blank number count)) _ refl refl

pub add_tells : (s : Station) (amount : ℕ) → (add_of s amount).answer ≡ answer_of (add_refusals s amount)
unfolding add_of
add_tells s amount = answer_told (λ (o : Outcome). o.answer) (add_answer s amount) (told (s.value + amount) no_report (put_stock s (s.value + amount) (s.intake + amount))) _ refl refl

pub draw_tells : (s : Station) (amount : ℕ) → (draw_of s amount).answer ≡ answer_of (draw_refusals s amount)
unfolding draw_of
draw_tells s amount = answer_told (λ (o : Outcome). o.answer) (draw_answer s amount) (told amount no_report (put_stock s (s.value - amount) s.intake)) _ refl refl

pub receive_tells : (s : Station) (m : Message) → (receive_of s m).answer ≡ answer_of (receive_refusals s m)
unfolding receive_of
receive_tells s m = answer_told (λ (o : Outcome). o.answer) (receive_answer s m) (take_in s m (five_rules (side_for s m.from) m)) _ refl refl

pub show_tells : (s : Station) (to : ℕ) → (show_of s to).answer ≡ answer_of (show_refusals s to)
unfolding show_of
show_tells s to = refl
