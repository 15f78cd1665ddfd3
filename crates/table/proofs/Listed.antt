-- Tests and sums over the elements of a list are those over the numbers below its length. Assumes
-- nothing.
use Rattle.std.proofs.Common.{ℕ, zero, suc, ◌<◌, ◌≤◌, ◌≡◌, ◌∙◌, refl, sym, Bool, List, length, get_or, take, map, arith, add-one, ⊎_elim}
use Rattle.std.specs.List.{list_all, sum, sum_by, range_with_len}
use Rattle.std.proofs.lemmas.List.{get_or_past, take_all}
use Rattle.std.proofs.lemmas.List.Folds.{list_all_more}
use Rattle.std.proofs.lemmas.List.Sums.{sum_by_more}
use Rattle.std.proofs.lemmas.List.FromFn.{sum_by-map-range_with_len_more}
use Rattle.ground.specs.Below.{all_below}
use Rattle.ground.specs.Sums.{sum_below}
use Rattle.ground.proofs.Tests.{below_or_not}

all_taken : {X : Type 0} (test : X → Bool) (p : ℕ → Bool) (xs : List X) (d : X) (n : ℕ) → n ≤ length xs → ((k : ℕ) → k < n → test (get_or xs k d) ≡ p k)
    → list_all test (take n xs) ≡ all_below p n
unfolding all_below
all_taken test p xs d zero h same = refl
all_taken test p xs d (suc n) h same =
    let more = rw (add-one n) at (list_all_more test xs n d (omega arith)) in
    more ∙ rw (all_taken test p xs d n (omega arith) (λ k l. same k (omega arith)), same n (omega arith))

-- a test that all elements of a list pass
pub all_listed : {X : Type 0} (test : X → Bool) (p : ℕ → Bool) (xs : List X) (d : X) (n : ℕ) → length xs ≡ n → ((k : ℕ) → k < n → test (get_or xs k d) ≡ p k)
    → list_all test xs ≡ all_below p n
all_listed test p xs d n e same = rw (sym (take_all n xs (omega arith))) (all_taken test p xs d n (omega arith) same)

-- a sum over the first elements; past a list's end stands one that adds nothing
pub sum_taken : {X : Type 0} (f : X → ℕ) (xs : List X) (d : X) → f d ≡ 0 → (n : ℕ) → sum_by f (take n xs) ≡ sum_below (λ k. f (get_or xs k d)) n
unfolding sum_below
sum_taken f xs d none zero = refl
sum_taken f xs d none (suc n) =
    let before = sum_taken f xs d none n in
    ⊎_elim (λ (h : n < length xs). rw (add-one n) at (sum_by_more f xs n d h) ∙ rw before)
    (λ (h : length xs ≤ n). rw (take_all (suc n) xs (omega arith), get_or_past xs n d h, none) (omega (arith, rw (take_all n xs h) at before)))
    (below_or_not n (length xs))

-- a sum over the numbers below a bound, one after the other
pub sum_ranged : (f : ℕ → ℕ) (n : ℕ) → sum (map f (range_with_len 0 n)) ≡ sum_below f n
unfolding sum_below
sum_ranged f zero = refl
sum_ranged f (suc n) = rw (add-one n) at (sum_by-map-range_with_len_more (λ x. x) f 0 n n (omega arith)) ∙ rw (sum_ranged f n)
