-- A lent buffer that is filled from its start: what one more text does to it.
use Rattle.std.specs.Prelude.{ℕ, ◌+◌, ◌≡◌, ◌≤◌, List, length}
use Rattle.std.proofs.lemmas.List.Edits.{sets}
use Rattle.script.specs.declared.printing.Page.{Page}

-- room for so many more bytes
abbrev pub HasRoom : Page → ℕ → Type 0
HasRoom page more = page.at + more ≤ length page.out.now

-- the bytes stand behind those before them, in the same buffer
pub record Puts (page : Page) (bytes : List ℕ) (later : Page) : Type 0 where
  pub same : later.out.ghost_name ≡ page.out.ghost_name
  pub at : later.at ≡ page.at + length bytes
  pub out : later.out.now ≡ sets page.out.now page.at bytes
