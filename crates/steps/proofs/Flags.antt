-- The places of a pool that are taken: the search finds the lowest-numbered empty place. Assumes
-- nothing.
use Rattle.std.proofs.Common.{Option}
use Prim.Native.Nat.{ℕ, zero, suc}
use mathlib.Core.Path.{◌≡◌, refl, ◌∙◌, ap}
use mathlib.Core.Bool.{false, not}
use mathlib.Core.List.{List, [], ◌∷◌}
use Rattle.rules.specs.declared.message.Message.{Message}
use native.Mathlib.Omega.{arith}
use lib.ListN.{length, get_or, set}
use Rattle.std.proofs.lemmas.List.{length-map, map-set}
use Rattle.ground.proofs.First.{first_same}
use Rattle.pool.specs.declared.places.Place.{Place}
use Rattle.pool.specs.Pool.{most_places, is_empty, place_in, lowest_empty}
use Rattle.steps.specs.Looking.{flag_of, flags_of, lowest_zero}

pub flag_at : (pool : List Place) (p : ℕ) → get_or (flags_of pool) p false ≡ flag_of (place_in pool p)
flag_at [] p = refl
flag_at (x ∷ xs) zero = refl
flag_at (x ∷ xs) (suc p) = flag_at xs p

pub length_flags : (pool : List Place) → length (flags_of pool) ≡ length pool
length_flags pool = length-map pool (λ (x : Place). flag_of x.waiting)

-- a place that is put anew has its flag put anew
pub flags_put : (pool : List Place) (p : ℕ) (w : Option Message) → flags_of (set pool p (record { waiting = w })) ≡ set (flags_of pool) p (flag_of w)
flags_put pool p w = map-set (λ (x : Place). flag_of x.waiting) pool p (record { waiting = w })

flag_test : (w : Option Message) → not (flag_of w) ≡ is_empty w
flag_test w = grind arith

pub lowest_flag : (pool : List Place) → lowest_zero (flags_of pool) ≡ lowest_empty pool
lowest_flag pool =
    first_same (λ p. not (get_or (flags_of pool) p false)) (λ p. is_empty (place_in pool p))
    (λ p. ap not (flag_at pool p) ∙ flag_test (place_in pool p)) most_places 0
