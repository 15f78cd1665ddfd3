use Rattle.std.proofs.Common.{sym, ◌∙◌, arith, false}
use lib.Seq.{ext_get_or}
use Rattle.steps.specs.Looking.{flags_of}
use Rattle.steps.proofs.Flags.{length_flags}
use Rattle.steps.proofs.taken.flags_of.Goals as goal

pub returns : goal.returns
returns c =
    let at = c.loop-p in
    let pool = c.args.pool.now in
    ext_get_or false at.taken (flags_of pool) (at.invariant.0 ∙ sym (length_flags pool ∙ c.told-pool)) (λ i h. at.invariant.1 i (omega arith))
