use native.Mathlib.Omega.{arith}
use mathlib.Core.Path.{◌∙◌}
use Rattle.script.proofs.Puts.{copied}
use Rattle.script.proofs.Readings.{length_three}
use Rattle.script.proofs.reading.put_asked.Goals as goal

pub returns : goal.returns
returns c =
    let a = c.args in
    copied a.codes.now a.at _ _ _ (c.copy_from_slice.ensures.after ∙ c.numbers_for.ensures) (omega (arith, length_three a.asked)) (omega (arith, length_three a.asked))
