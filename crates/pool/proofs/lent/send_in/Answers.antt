-- The place found is the lowest-numbered empty one, or there is none; so the refusals come out as
-- they are listed.
use Rattle.std.proofs.Common.{◌≡◌, ℕ, Bool, true, false, List, Option, ◌+◌, ◌-◌, refl, sym, ap, ◌∙◌, arith}
use borrow.Author.Tests.{lt-ltb}
use Rattle.ground.proofs.First.{first_none, first_here, first_later}
use Rattle.rules.specs.declared.message.Message.{Message}
use Rattle.pool.specs.Pool.{place_in, is_empty, lowest_empty}
use Rattle.pool.specs.declared.places.Place.{Place}
use Rattle.pool.proofs.lent.send_in.Goals as goal

abbrev test : List Place → ℕ → Bool
test pool p = is_empty (place_in pool p)

pub returns-then-p-ge-MOST_PLACES : goal.returns-then-p-ge-MOST_PLACES
returns-then-p-ge-MOST_PLACES c =
    let at = c.loop-p in
    let none : lowest_empty c.args.pool.now ≡ 64 =
    sym at.invariant.still ∙ first_none (test c.args.pool.now) (64 - at.p) at.p (omega arith) ∙ omega arith in
    rw (c.refuse-then-p-ge-MOST_PLACES.ensures, c.if-pool-ne-MOST_PLACES.false, none) (refl, refl)

pub loop-p-preserved : goal.loop-p-preserved
loop-p-preserved c =
    let at = c.loop-p in
    let taken : test c.args.pool.now at.p ≡ false = ap (λ (w : Option Message). is_empty w) c.in-Some.is in
    record {
      within = omega arith;
      still = sym (first_later (test c.args.pool.now) (64 - at.p) (64 - (at.p + 1)) at.p (omega arith) taken) ∙ at.invariant.still;
    }

pub returns : goal.returns
returns c =
    let at = c.loop-p in
    let empty : test c.args.pool.now at.p ≡ true = ap (λ (w : Option Message). is_empty w) c.in-None.is in
    let found : lowest_empty c.args.pool.now ≡ at.p =
    sym at.invariant.still ∙ first_here (test c.args.pool.now) (64 - at.p) (64 - (at.p + 1)) at.p (omega arith) empty in
    rw (c.if-pool-ne-MOST_PLACES.false, found, lt-ltb at.p 64 c.if-p-ge-MOST_PLACES.false) (refl, refl)
