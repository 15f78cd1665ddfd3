use Rattle.std.proofs.Common.{◌≡◌, ◌/◌, length}
use Rattle.std.specs.Slice.Iter.{chunks_exact_rest, chunks_exact_size}
use Rattle.steps.specs.Running.{asked_in}
use Rattle.measure.specs.Steps.{last_result, last_result_of}
use Rattle.measure.proofs.qm_last_result.Given as goal

abbrev pub invariant-loop-three : goal.invariant-loop-three
invariant-loop-three l =
    let rest = chunks_exact_rest l.three-iterator in
    record {
      threes : chunks_exact_size l.three-iterator ≡ 3;
      so_far : last_result l.t l.last (asked_in (length rest / 3) rest) ≡ last_result_of l.count l.codes;
    }
