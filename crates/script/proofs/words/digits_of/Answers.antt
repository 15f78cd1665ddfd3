use mathlib.Core.Path.{sym, ◌∙◌}
use native.Mathlib.Omega.{arith}
use lib.ListN.{get_or}
use Rattle.script.proofs.Digits.{digit_range, digits_on, digits_off, digits_ended, grown}
use Rattle.script.proofs.words.digits_of.Goals as goal

pub returns-then-not-is_ascii_digit : goal.returns-then-not-is_ascii_digit
returns-then-not-is_ascii_digit c =
    let at = c.loop-b in
    sym (digits_off c.args.word.now at.b-index at.sofar c.loop-b-test.true (sym c.is_ascii_digit.ensures.value ∙ c.if-not-is_ascii_digit.true)) ∙ at.invariant.same

pub loop-b-preserved : goal.loop-b-preserved
loop-b-preserved c =
    let at = c.loop-b in
    let is_digit = sym c.is_ascii_digit.ensures.value ∙ c.if-not-is_ascii_digit.false in
    rw c.from.ensures (record {
      same = sym (digits_on c.args.word.now at.b-index at.sofar c.loop-b-test.true is_digit) ∙ at.invariant.same;
      small = grown at.b-index at.sofar _ at.invariant.small (omega (arith, digit_range (get_or c.args.word.now at.b-index 0) is_digit));
    })

pub returns : goal.returns
returns c =
    let at = c.loop-b in
    sym (digits_ended c.args.word.now at.b-index at.sofar c.loop-b-test.false) ∙ at.invariant.same
