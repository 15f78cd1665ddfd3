use Rattle.std.proofs.Common.{rules, ◌≤◌, length}
use mathlib.Core.Path.{sym, ◌∙◌}
use native.Mathlib.Omega.{arith}
use Rattle.script.proofs.Digits.{numeral_off, numeral_zero, numeral_digits}
use Rattle.script.proofs.words.numeral_of.Goals.{else-word-gt1-via-then-word-gt1+else-word-eq48, else-word-gt1-via-else-word-gt1}
use Rattle.script.proofs.words.numeral_of.Goals as goal

pub returns-then-not-contains : goal.returns-then-not-contains
returns-then-not-contains c = sym (numeral_off c.args.word.now (λ h l. search rules))

pub returns-then-word-eq48 : goal.returns-then-word-eq48
returns-then-word-eq48 c = sym (numeral_zero c.args.word.now c.if-word-gt1.true c.if-word-eq48.true)

pub returns : goal.returns
returns c =
    let word = c.args.word.now in
    let inside : (1 ≤ length word) × (length word ≤ 10) = search rules in
    c.digits_of.ensures ∙ sym (numeral_digits word inside.0 inside.1
    (elim c.else-word-gt1.branch [ else-word-gt1-via-then-word-gt1+else-word-eq48 w ↦ λ h. w.if-word-eq48.false | else-word-gt1-via-else-word-gt1 w ↦ λ h e. omega arith ]))
