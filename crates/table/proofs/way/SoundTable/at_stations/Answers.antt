use Rattle.std.proofs.Common.{rules, take, refl, ◌≡◌, ◌∙◌}
use Rattle.std.specs.List.{sum_by}
use Rattle.std.proofs.lemmas.Iterator.{YieldsList-from_slice, YieldsList-from_map}
use Rattle.std.proofs.lemmas.Iterator.Consumers.{sum_by_from_yields_List, fits_by_from_yields_list}
use Rattle.table.specs.declared.table.Table.{Table}
use Rattle.table.specs.Table.{station_past_end}
use Rattle.table.specs.Way.{at_stations}
use Rattle.table.proofs.Listed.{sum_taken}
use Rattle.table.proofs.Sums.{values_fit}
use Rattle.table.proofs.way.SoundTable.at_stations.Goals as goal

same : (t : Table) → sum_by (λ s. s.value) (take t.count t.stations) ≡ at_stations t
same t = sum_taken (λ s. s.value) t.stations station_past_end refl t.count

pub sum-requires-clause-fits : goal.sum-requires-clause-fits
sum-requires-clause-fits c =
    let t = c.args.self.now.table.now in
    let first = take t.count t.stations in
    fits_by_from_yields_list (λ s. s.value) first c.map.result _
    (YieldsList-from_map _ (λ s. s.value) (YieldsList-from_slice first cc) c.map.ensures.closure (λ x r q k. search rules))
    (rw (same t) (values_fit t (search rules)))

pub returns : goal.returns
returns c =
    let t = c.args.self.now.table.now in
    let first = take t.count t.stations in
    sum_by_from_yields_List (λ s. s.value) first c.map.result _ c.sum.ensures.ran
    (YieldsList-from_map _ (λ s. s.value) (YieldsList-from_slice first cc) c.map.ensures.closure (λ x r q k. search rules))
    ∙ same t
