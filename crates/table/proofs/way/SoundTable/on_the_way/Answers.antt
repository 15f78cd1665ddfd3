use Rattle.std.proofs.Common.{rules, arith, ◌∙◌}
use Rattle.std.proofs.lemmas.Iterator.{YieldsList-from_range, YieldsList-from_map}
use Rattle.std.proofs.lemmas.Iterator.Consumers.{sum_from_yields_List, fits_from_yields_list}
use Rattle.table.specs.Way.{way_from}
use Rattle.table.proofs.Listed.{sum_ranged}
use Rattle.table.proofs.Sums.{ways_fit}
use Rattle.table.proofs.way.SoundTable.on_the_way.Goals as goal

pub sum-requires-clause-fits : goal.sum-requires-clause-fits
sum-requires-clause-fits c =
    let t = c.args.self.now.table.now in
    fits_from_yields_list c.map.result _
    (YieldsList-from_map _ (way_from t) (YieldsList-from_range 0 t.count t.count (cc) (omega arith)) c.map.ensures.closure (λ x r q k. search rules))
    (rw (sum_ranged (way_from t) t.count) (ways_fit t (search rules)))

pub returns : goal.returns
returns c =
    let t = c.args.self.now.table.now in
    sum_from_yields_List c.map.result _ c.sum.ensures.ran
    (YieldsList-from_map _ (way_from t) (YieldsList-from_range 0 t.count t.count (cc) (omega arith)) c.map.ensures.closure (λ x r q k. search rules))
    ∙ sum_ranged (way_from t) t.count
