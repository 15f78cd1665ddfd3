use Prim.Native.Nat.{◌<◌, ◌^◌}
use mathlib.Core.Path.{◌≡◌}
use Rattle.record.specs.Numbers.{number_at}
use Rattle.record.proofs.numbers.bytes_at.Given as goal

abbrev pub invariant-loop-byte : goal.invariant-loop-byte
invariant-loop-byte l = record { number : l.x ≡ number_at l.bytes l.at l.byte-index; below : l.x < 256 ^ l.byte-index }
