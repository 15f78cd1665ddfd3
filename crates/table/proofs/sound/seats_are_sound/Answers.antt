use Rattle.std.proofs.Common.{rules, arith, length, ◌≡◌, ◌∙◌, ℕ}
use native.Mathlib.Nat.{zero-add}
use borrow.Author.Tests.{tests}
use Rattle.std.specs.List.{enumerate_from}
use Rattle.std.proofs.lemmas.Iterator.{YieldsList-from_slice}
use Rattle.std.proofs.lemmas.Iterator.Consumers.{YieldsList-at, YieldsList-from_enumerate}
use Rattle.std.proofs.lemmas.Iterator.Search.{all_from_yields_List}
use Rattle.std.proofs.lemmas.List.FromFn.{length-enumerate_from, get_or-enumerate_from}
use Rattle.station.specs.declared.station.Station.{Station}
use Rattle.table.specs.Table.{station_in, station_past_end}
use Rattle.table.specs.Sound.{seat_sound}
use Rattle.table.proofs.Listed.{all_listed}
use Rattle.table.proofs.sound.seats_are_sound.Goals as goal

pub returns : goal.returns
returns c =
    let a = c.args in
    let e : length a.stations.now ≡ 16 = omega arith in
    let test = λ (q : ℕ × Station). seat_sound q.1 q.0 a.count in
    all_from_yields_List test _ _ c.all.result c.all.ensures.ran
    (YieldsList-from_enumerate (YieldsList-at c.enumerate.ensures.source (YieldsList-from_slice a.stations.now cc)) cc) (λ x b q k. search (rules, tests))
    ∙ all_listed test (λ k. seat_sound (station_in a.stations.now k) k a.count) (enumerate_from 0 a.stations.now) (0, station_past_end) 16
    (omega (arith, length-enumerate_from 0 a.stations.now))
    (λ k l. rw (get_or-enumerate_from 0 a.stations.now k (0, station_past_end) (omega arith), zero-add))
