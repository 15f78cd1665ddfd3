use Prim.Native.Nat.{ℕ}
use mathlib.Core.Path.{◌≡◌}
use native.Mathlib.Omega.{arith}
use lib.ListN.{replicate}
use Rattle.std.proofs.Common.{None}
use Rattle.quynhabet.specs.Layout.{place_from, four_fits, fits_at, cell_at, cells_of}
use Rattle.ground.proofs.Below.{all_none, all_more}
use Rattle.ground.proofs.InTurn.{turn_none, turn_one, length_ones}
use Rattle.ground.proofs.Stores.{whole}
use Rattle.quynhabet.proofs.Fitting.{all_fails, read_lem, not_read}
use Rattle.quynhabet.proofs.stations.cells_of.Goals as goal

pub loop-k-init : goal.loop-k-init
loop-k-init g c = record { fit = all_none _; read = turn_none _ _ _ }

pub loop-k-preserved : goal.loop-k-preserved
loop-k-preserved g c =
    let at = c.loop-k in
    let n = c.args.numbers.now in
    let f = λ (k : ℕ). cell_at g.H.Held.held_on n (place_from c.args.at k) in
    let r = read_lem (four_fits c.four_at.result) _ _ c.cell_of.result c.in_ok-cell.was c.cell_of.ensures in
    let here = rw c.four_at.ensures at r.0 in
    record {
      fit = rw (all_more (fits_at n (place_from c.args.at)) at.k, at.invariant.fit, here);
      read = rw (r.1, c.four_at.ensures) (turn_one f (replicate 16 (record { held = None })) at.k at.cell-items at.invariant.read);
    }

pub returns-in_err-cell : goal.returns-in_err-cell
returns-in_err-cell g c =
    let n = c.args.numbers.now in
    let fails = not_read (four_fits c.four_at.result) _ c.cell_of.result c.in_err-cell.was c.cell_of.ensures in
    let here = rw c.four_at.ensures at fails in
    let none = all_fails (fits_at n (place_from c.args.at)) 16 c.loop-k.k here (omega arith) in
    rw none c.from_residual.ensures

pub returns : goal.returns
returns g c =
    let at = c.loop-k in
    let f = λ (k : ℕ). cell_at g.H.Held.held_on c.args.numbers.now (place_from c.args.at k) in
    let e : at.k ≡ 16 = omega arith in
    let fit = rw e at at.invariant.fit in
    let read = rw e at at.invariant.read in
    rw (fit, read, whole (replicate 16 (record { held = None })) (cells_of g.H.Held.held_on c.args.numbers.now (place_from c.args.at)) (length_ones f 16))
