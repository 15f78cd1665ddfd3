use mathlib.Core.Path.{refl}
use native.Mathlib.Omega.{arith}
use Rattle.record.proofs.Digits.{length_big}
use Rattle.record.proofs.putting.Sheet.number.Goals as goal

pub returns : goal.returns
returns c = let a = c.args in record { same = refl; at = omega (arith, length_big a.size a.x); out = c.put_number.ensures }
