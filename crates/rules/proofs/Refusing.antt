-- Answers looked for in order. Assumes nothing.
use Rattle.std.proofs.Common.{Option, Some, None}
use Prim.Native.Nat.{ℕ, ◌+◌, ◌≤◌}
use mathlib.Core.Path.{◌≡◌, refl, sym}
use mathlib.Core.Bool.{true, false, not}
use Rattle.rules.specs.declared.held.Token.{Token}
use lib.Dec.{ltb, leb}
use borrow.Author.Tests.{leb-true, ltb-false, not-false}
use Rattle.rules.specs.declared.message.Message.{Message}
use Rattle.rules.specs.declared.side.Side.{Side}
use Rattle.rules.specs.declared.stock.Stock.{Stock}
use Rattle.rules.specs.declared.taking.Taken.{Taken}
use Rattle.ground.specs.Limits.{most_amount, most_intake, most_value}
use Rattle.ground.specs.Answers.{not_sound, bad_amount, too_few}
use Rattle.ground.specs.Refusals.{answer_of}
use Rattle.rules.specs.Rules.{fill}
use Rattle.rules.specs.Taking.{token_small, message_small, TokenInRange, five_rules, take_refusals, take_answer, taken_of, Takes}
use Rattle.rules.specs.Stock.{stock_sound, amount_sound, add_to_refusals, add_to_answer, add_done, added_to, draw_from_refusals, draw_from_answer, draw_done, drawn_from, refused_stock}
use Rattle.ground.proofs.Tests.{both_hold}
use Rattle.ground.proofs.Refusing.{passed}
use Rattle.ground.proofs.Choices.{when_done, answer_told}

pub amount_small : (amount : ℕ) → amount_sound amount ≡ true → amount ≤ most_amount
amount_small amount e = leb-true _ _ (both_hold (leb 1 amount) _ e).1

-- an add and a draw tell the answer that was found
pub add_to_tells : (value intake amount : ℕ) → (added_to value intake amount).answer ≡ answer_of (add_to_refusals value intake amount)
unfolding added_to
add_to_tells value intake amount = answer_told (λ (k : Stock). k.answer) (add_to_answer value intake amount) (add_done value intake amount) _ refl refl

pub draw_from_tells : (value intake amount : ℕ) → (drawn_from value intake amount).answer ≡ answer_of (draw_from_refusals value intake amount)
unfolding drawn_from
draw_from_tells value intake amount = answer_told (λ (k : Stock). k.answer) (draw_from_answer value intake amount) (draw_done value intake amount) _ refl refl

-- a draw by what was found, the first of its refusals or none
module _ (value intake amount : ℕ) where
  pub draw_unsound : stock_sound value intake ≡ false → refused_stock not_sound value intake ≡ drawn_from value intake amount
  unfolding drawn_from
  draw_unsound s = rw s

  module _ (s : stock_sound value intake ≡ true) where
    pub draw_bad : amount_sound amount ≡ false → refused_stock bad_amount value intake ≡ drawn_from value intake amount
    unfolding drawn_from
    draw_bad a = rw (s, a)

    pub draw_few : amount_sound amount ≡ true → ltb value amount ≡ true → refused_stock too_few value intake ≡ drawn_from value intake amount
    unfolding drawn_from
    draw_few a few = rw (s, a, few)

    pub draw_all : amount_sound amount ≡ true → ltb value amount ≡ false → draw_done value intake amount ≡ drawn_from value intake amount
    unfolding drawn_from
    draw_all a few = rw (s, a, few)

-- what was taken tells the answer that was found
pub take_tells : (x : Side) (m : Message) → (taken_of x m).answer ≡ answer_of (take_refusals x m)
unfolding taken_of five_rules
take_tells x m = answer_told (λ (t : Taken). t.answer) (take_answer x m) (five_rules x m) _ refl refl

pub take_done : (x : Side) (m : Message) → take_answer x m ≡ 0 → taken_of x m ≡ five_rules x m
unfolding taken_of
take_done x m e = sym (when_done (five_rules x m) _ e)

pub small_fits : (h : Option Token) → token_small h ≡ true → TokenInRange h
small_fits None e = tt
small_fits (Some t) e = leb-true _ _ e

-- the rules may take what is not refused
pub takes : (x : Side) (m : Message) → take_answer x m ≡ 0 → Takes x m
takes x m e =
    let one = passed (ltb most_value x.value) _ e in
    let two = passed (not (message_small m)) _ one.1 in
    let three = passed (ltb most_value (fill x m).side.value) _ two.1 in
    let small = both_hold (leb m.value most_value) _ (not-false (message_small m) two.0) in
    record {
      value = ltb-false _ _ one.0;
      shown = leb-true _ _ small.0;
      token = small_fits m.token small.1;
      room = ltb-false _ _ three.0;
    }

-- what an add that is done has room for
pub record Added (v i amount : ℕ) : Type 0 where
  pub value : v + amount ≤ most_value
  pub intake : i + amount ≤ most_intake

pub added : (value intake amount : ℕ) → add_to_answer value intake amount ≡ 0 → Added value intake amount
added value intake amount e =
    let one = passed (not (stock_sound value intake)) _ e in
    let two = passed (not (amount_sound amount)) _ one.1 in
    let three = passed (ltb most_intake (intake + amount)) _ two.1 in
    let four = passed (ltb most_value (value + amount)) _ three.1 in
    record { value = ltb-false _ _ four.0; intake = ltb-false _ _ three.0 }
