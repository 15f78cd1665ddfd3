use Rattle.std.proofs.Common.{refl, rules, arith, length, ◌≡◌, ◌∙◌, None}
use borrow.Author.Tests.{tests}
use Rattle.std.proofs.lemmas.Iterator.{YieldsList-from_slice}
use Rattle.std.proofs.lemmas.Iterator.Search.{all_from_yields_List}
use Rattle.pool.specs.declared.places.Place.{Place}
use Rattle.pool.specs.Pool.{place_in}
use Rattle.table.specs.Sound.{place_sound}
use Rattle.table.proofs.Listed.{all_listed}
use Rattle.table.proofs.sound.places_are_sound.Goals as goal

pub returns : goal.returns
returns c =
    let a = c.args in
    let e : length a.pool.now ≡ 64 = omega arith in
    let test = λ (x : Place). place_sound x.waiting a.count in
    all_from_yields_List test _ _ c.all.result c.all.ensures.ran (YieldsList-from_slice a.pool.now cc) (λ x b q k. search (rules, tests))
    ∙ all_listed test (λ p. place_sound (place_in a.pool.now p) a.count) a.pool.now (record { waiting = None }) 64 e (λ k l. refl)
