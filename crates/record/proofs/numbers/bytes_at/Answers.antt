use Prim.Native.Nat.{◌+◌}
use mathlib.Core.Path.{sym}
use native.Mathlib.Omega.{arith}
use borrow.Author.Rules.{rules}
use Rattle.record.proofs.Bytes.{read_none, read_more, in_part, part_byte, room, grown}
use Rattle.record.proofs.numbers.bytes_at.Goals as goal

pub loop-byte-init : goal.loop-byte-init
loop-byte-init c = record { number = sym (read_none _ _); below = search rules }

pub overflow_mul-x : goal.overflow_mul-x
overflow_mul-x c =
    let at = c.loop-byte in
    let i = in_part c.args.bytes.now c.args.at c.args.size at.byte-index c.loop-byte-test.true in
    omega (arith, room at.byte-index at.x (omega arith) at.invariant.below)

pub overflow_add-x : goal.overflow_add-x
overflow_add-x c =
    let at = c.loop-byte in
    let i = in_part c.args.bytes.now c.args.at c.args.size at.byte-index c.loop-byte-test.true in
    rw (part_byte c.args.bytes.now c.args.at c.args.size at.byte-index c.loop-byte-test.true)
    (omega (arith, room at.byte-index at.x (omega arith) at.invariant.below, c.type_inv.bytes (c.args.at + at.byte-index)))

pub loop-byte-preserved : goal.loop-byte-preserved
loop-byte-preserved c =
    let at = c.loop-byte in
    rw (part_byte c.args.bytes.now c.args.at c.args.size at.byte-index c.loop-byte-test.true)
    (record { number = rw at.invariant.number (sym (read_more _ _ at.byte-index)); below = grown at.byte-index at.x _ at.invariant.below (omega (arith, c.type_inv.bytes (c.args.at + at.byte-index))) })
