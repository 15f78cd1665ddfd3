use mathlib.Core.Path.{refl, ◌∙◌}
use Prim.Native.Nat.{ℕ}
use mathlib.Core.List.{List, ◌++◌}
use native.Mathlib.Nat.{zero-add}
use lib.ListN.{replicate}
use Rattle.quynhabet.specs.Layout.{first_numbers, slots_numbers, tokens_numbers, numbers_of}
use Rattle.ground.proofs.Stores.{then, whole}
use Rattle.quynhabet.proofs.Lengths.{length_front, length_numbers}
use Rattle.quynhabet.proofs.stations.numbers_of.Goals as goal

pub returns : goal.returns
unfolding numbers_of
returns c =
    let s = c.args.s in
    let zeros : List ℕ = replicate 134 0 in
    let first = rw c.copy_from_slice.ensures.after at c.put_cells.ensures in
    let one = then zeros 0 6 (first_numbers s) (slots_numbers s) _ _ refl first refl in
    let two = then zeros 0 70 (first_numbers s ++ slots_numbers s) (tokens_numbers s) _ _ one c.put_cells-2.ensures (zero-add _ ∙ length_front s) in
    two ∙ whole zeros (first_numbers s ++ slots_numbers s ++ tokens_numbers s) (length_numbers s)
