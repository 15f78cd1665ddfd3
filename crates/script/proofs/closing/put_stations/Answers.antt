use Rattle.std.proofs.Common.{rules, ◌≡◌, ◌≤◌, ℕ}
use native.Mathlib.Omega.{arith}
use mathlib.Core.Path.{sym, ap}
use lib.ListN.{length, length-take}
use lib.Seq.{get_or-take, length-take-le}
use Rattle.script.specs.Script.{station_lines}
use Rattle.script.proofs.Closings.{length_stations, more_stations, no_stations}
use Rattle.script.proofs.Puts.{puts_both, puts_none, puts_to, room_left}
use Rattle.script.proofs.closing.put_stations.Goals as goal

pub loop-k-init : goal.loop-k-init
loop-k-init c = puts_to (sym (no_stations c.args.t)) (puts_none c.args.page.now)

pub put_station-requires : goal.put_station-requires
put_station-requires c =
    let at = c.loop-k in
    room_left 2048 128 c.requires.1 at.invariant (omega (arith, length_stations c.args.t at.k, c.requires.0, rw length-take at c.loop-k-test.true))

pub loop-k-preserved : goal.loop-k-preserved
loop-k-preserved c =
    let t = c.args.t in
    let at = c.loop-k in
    let below = rw length-take at c.loop-k-test.true in
    let put = rw (get_or-take t.count t.stations at.k _ (omega (arith, below))) at c.put_station.ensures in
    puts_both at.invariant put (sym (more_stations t at.k))

pub returns : goal.returns
returns c =
    let t = c.args.t in
    let at = c.loop-k in
    let wide : t.count ≤ length t.stations = search rules in
    let all : at.k ≡ t.count = omega (arith, length-take-le t.count t.stations wide) in
    puts_to (ap (λ (n : ℕ). station_lines t n) all) at.invariant
