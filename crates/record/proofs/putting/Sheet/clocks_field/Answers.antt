use mathlib.Core.List.{append-nil}
use Rattle.record.proofs.Sheets.{puts_both}
use Rattle.record.proofs.putting.Sheet.clocks_field.Goals as goal

pub returns : goal.returns
returns c = puts_both (rw c.requires.0 at c.head.ensures) c.clocks.ensures (simp append-nil)
