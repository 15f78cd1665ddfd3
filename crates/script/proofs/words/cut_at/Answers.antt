use Rattle.std.proofs.Common.{rules, tests}
use mathlib.Core.Path.{sym, ◌∙◌}
use Rattle.std.proofs.lemmas.Iterator.{YieldsList-from_slice}
use Rattle.std.proofs.lemmas.Iterator.Search.{position_from_yields_List}
use Rattle.script.proofs.Cutting.{behind, found_at, found_none, front, nothing, whole}
use Rattle.script.proofs.words.cut_at.Goals as goal

pub returns-in-Some : goal.returns-in-Some
returns-in-Some c =
    let a = c.args in
    let at = found_at a.byte a.bytes.now (sym c.in-Some.is ∙ position_from_yields_List _ _ _ _ c.position.ensures.ran (YieldsList-from_slice a.bytes.now cc) (λ x b q k. search (rules, tests))) in
    record { before = front a.byte a.bytes.now _ at; behind = behind a.byte a.bytes.now _ at }

pub returns-in-None : goal.returns-in-None
returns-in-None c =
    let a = c.args in
    let none = found_none a.byte a.bytes.now (sym c.in-None.is ∙ position_from_yields_List _ _ _ _ c.position.ensures.ran (YieldsList-from_slice a.bytes.now cc) (λ x b q k. search (rules, tests))) in
    record { before = whole a.byte a.bytes.now none; behind = nothing a.byte a.bytes.now none }
