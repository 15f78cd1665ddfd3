use Rattle.std.proofs.Common.{rules, arith, ◌∙◌}
use Rattle.std.proofs.lemmas.Iterator.{YieldsList-from_range, YieldsList-from_map}
use Rattle.std.proofs.lemmas.Iterator.Consumers.{sum_from_yields_List, fits_from_yields_list}
use Rattle.std.proofs.iter.Serving.{serving}
use Rattle.table.specs.Way.{between}
use Rattle.table.proofs.Listed.{sum_ranged}
use Rattle.table.proofs.Sums.{way_small}
use Rattle.table.proofs.Tables.{count_most}
use Rattle.table.proofs.way.SoundTable.way_from.Goals as goal

pub sum-requires-clause-can : goal.sum-requires-clause-can
sum-requires-clause-can c = let m = count_most c.args.self.now.table.now (search rules) in grind serving

pub sum-requires-clause-fits : goal.sum-requires-clause-fits
sum-requires-clause-fits c =
    let t = c.args.self.now.table.now in
    let i = c.args.i in
    fits_from_yields_list c.map.result _
    (YieldsList-from_map _ (between t i) (YieldsList-from_range 0 t.count t.count (cc) (omega arith)) c.map.ensures.closure (λ x r q k. search rules))
    (rw (sum_ranged (between t i) t.count) (omega (arith, way_small t (search rules) i t.count c.requires (omega arith))))

pub returns : goal.returns
returns c =
    let t = c.args.self.now.table.now in
    let i = c.args.i in
    sum_from_yields_List c.map.result _ c.sum.ensures.ran
    (YieldsList-from_map _ (between t i) (YieldsList-from_range 0 t.count t.count (cc) (omega arith)) c.map.ensures.closure (λ x r q k. search rules))
    ∙ sum_ranged (between t i) t.count
