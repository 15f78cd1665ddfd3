use mathlib.Core.Path.{refl}
use Rattle.record.proofs.Sheets.{puts_both}
use Rattle.record.proofs.putting.Sheet.clocks.Goals as goal

pub returns : goal.returns
returns c = puts_both c.number.ensures c.number-2.ensures refl
