use mathlib.Core.List.{append-nil}
use native.Mathlib.Nat.{add-zero}
use Rattle.record.proofs.Sheets.{puts_both}
use Rattle.record.proofs.putting.Sheet.field.Goals as goal

pub returns : goal.returns
returns c = puts_both c.head.ensures c.number.ensures (simp (append-nil, add-zero))
