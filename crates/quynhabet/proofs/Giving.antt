-- What an export gives. Assumes nothing.
use Prim.Native.Nat.{ℕ}
use mathlib.Core.Path.{◌≡◌, ap, ◌∙◌}
use mathlib.Core.List.{List}
use Rattle.ground.specs.declared.told.Told.{Told}
use Rattle.record.specs.Writing.{Writes}
use Rattle.quynhabet.specs.declared.told.ToldNumbers.{ToldNumbers}
use Rattle.quynhabet.specs.Exports.{Gives, plain_told, written_by}

-- a writing that is told in numbers
pub gives_written : (answer : ℕ) (bytes before : List ℕ) (w : Told) (t : ToldNumbers) (after : List ℕ) → Writes answer bytes before w after
    → t ≡ plain_told w.answer w.result → Gives (written_by answer bytes before) t after
gives_written answer bytes before w t after writes e =
    record { told = e ∙ ap (λ (v : Told). plain_told v.answer v.result) writes.told; lent = writes.buffer }
