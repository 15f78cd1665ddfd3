-- A lent buffer that is filled from its start: what one more field does to it.
use Rattle.std.specs.Prelude.{ℕ, ◌+◌, ◌≡◌, ◌≤◌, List, length}
use Rattle.std.proofs.lemmas.List.Edits.{sets}
use Rattle.record.specs.declared.putting.Sheet.{Sheet}

-- the bytes fit behind those before them
pub record HasRoom (sheet : Sheet) (bytes : List ℕ) : Type 0 where
  pub fits : sheet.at + length bytes ≤ length sheet.out.now

-- the bytes stand behind those before them, in the same buffer
pub record Puts (sheet : Sheet) (bytes : List ℕ) (later : Sheet) : Type 0 where
  pub same : later.out.ghost_name ≡ sheet.out.ghost_name
  pub at : later.at ≡ sheet.at + length bytes
  pub out : later.out.now ≡ sets sheet.out.now sheet.at bytes
