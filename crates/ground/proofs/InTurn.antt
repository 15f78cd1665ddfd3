-- Lists made in turn, and stored in turn into a longer one. Assumes nothing.
use Prim.Native.Nat.{ℕ, zero, suc, ◌+◌, ◌*◌, ◌<◌, ◌≤◌}
use mathlib.Core.Path.{◌≡◌, refl, subst, sym, ◌∙◌}
use mathlib.Core.Logic.{⊎_elim}
use mathlib.Core.List.{List, [], ◌∷◌, ◌++◌}
use native.Mathlib.Omega.{arith}
use native.Mathlib.Numerals.{add-one}
use lib.ListN.{length, get_or, set, length-append, get_or-append}
use lib.Seq.{sets, ext_get_or, get_or-append-add}
use Rattle.ground.proofs.Tests.{below_or_last}
use Rattle.ground.proofs.Stores.{then}
use Rattle.ground.specs.InTurn.{in_turn}

pub turn_none : {A : Type 0} (f : ℕ → List A) (b : List A) (at : ℕ) → b ≡ sets b at (in_turn f 0)
unfolding in_turn
turn_none f b at = refl

turn_more : {A : Type 0} (f : ℕ → List A) (k : ℕ) → in_turn f (k + 1) ≡ in_turn f k ++ f k
unfolding in_turn
turn_more f k = rw (add-one k)

-- a loop that stores in turn
turn : {A : Type 0} (f : ℕ → List A) (b : List A) (at next k : ℕ) (a a' : List A) → a ≡ sets b at (in_turn f k) → a' ≡ sets a next (f k)
    → at + length (in_turn f k) ≡ next → a' ≡ sets b at (in_turn f (k + 1))
turn f b at next k a a' e e' h = rw (turn_more f k) (then b at next (in_turn f k) (f k) a a' e e' h)

-- its length, for one element and for four at each number
pub length_ones : {A : Type 0} (f : ℕ → A) (n : ℕ) → length (in_turn (λ k. f k ∷ []) n) ≡ n
unfolding in_turn
length_ones f zero = refl
length_ones f (suc n) = rw (length-append, length_ones f n) (omega arith)

pub length_fours : {A : Type 0} (f : ℕ → List A) → ((k : ℕ) → length (f k) ≡ 4) → (n : ℕ) → length (in_turn f n) ≡ 4 * n
unfolding in_turn
length_fours f four zero = refl
length_fours f four (suc n) = rw (length-append, length_fours f four n, four n) (omega arith)

-- a loop that fills a list from its start, and one that stores four elements at each number
pub turn_one : {A : Type 0} (f : ℕ → A) (b : List A) (k : ℕ) (a : List A) → a ≡ sets b 0 (in_turn (λ j. f j ∷ []) k)
    → set a k (f k) ≡ sets b 0 (in_turn (λ j. f j ∷ []) (k + 1))
turn_one f b k a e = turn (λ j. f j ∷ []) b 0 k k a (set a k (f k)) e refl (rw (length_ones f k) (omega arith))

pub turn_four : {A : Type 0} (f : ℕ → List A) → ((k : ℕ) → length (f k) ≡ 4) → (b : List A) (at k : ℕ) (a a' : List A) → a ≡ sets b at (in_turn f k)
    → a' ≡ sets a (at + 4 * k) (f k) → a' ≡ sets b at (in_turn f (k + 1))
turn_four f four b at k a a' e e' = turn f b at (at + 4 * k) k a a' e e' (rw (length_fours f four k))

-- what stands at a number's place
turn_room : {A : Type 0} (f : ℕ → List A) (n k : ℕ) → k < n → length (in_turn f k) + length (f k) ≤ length (in_turn f n)
unfolding in_turn
turn_room f zero k h = absurd (omega arith)
turn_room f (suc n) k h =
    ⊎_elim (λ l. let r = turn_room f n k l in rw length-append (omega arith))
    (λ (e : n ≡ k). subst (λ (i : ℕ). length (in_turn f i) + length (f i) ≤ length (in_turn f n ++ f n)) e (rw length-append (omega arith)))
    (below_or_last n k h)

at_turn : {A : Type 0} (f : ℕ → List A) (n k j : ℕ) (d : A) → k < n → j < length (f k) → get_or (in_turn f n) (length (in_turn f k) + j) d ≡ get_or (f k) j d
unfolding in_turn
at_turn f zero k j d h g = absurd (omega arith)
at_turn f (suc n) k j d h g =
    ⊎_elim (λ (l : k < n). let r = turn_room f n k l in get_or-append (in_turn f n) (f n) d (length (in_turn f k) + j) (omega arith) ∙ at_turn f n k j d l g)
    (λ (e : n ≡ k). subst (λ (i : ℕ). get_or (in_turn f n ++ f n) (length (in_turn f i) + j) d ≡ get_or (f i) j d) e (get_or-append-add (in_turn f n) (f n) j d))
    (below_or_last n k h)

pub at_ones : {A : Type 0} (f : ℕ → A) (n k : ℕ) (d : A) → k < n → get_or (in_turn (λ j. f j ∷ []) n) k d ≡ f k
at_ones f n k d h =
    let e : length (in_turn (λ j. f j ∷ []) k) + 0 ≡ k = rw (length_ones f k) (omega arith) in
    rw e at (at_turn (λ j. f j ∷ []) n k 0 d h (omega arith))

pub at_fours : {A : Type 0} (f : ℕ → List A) → ((k : ℕ) → length (f k) ≡ 4) → (n k j : ℕ) (d : A) → k < n → j < 4
    → get_or (in_turn f n) (4 * k + j) d ≡ get_or (f k) j d
at_fours f four n k j d h g = rw (length_fours f four k) at (at_turn f n k j d h (rw (four k) g))

-- a list is what stands at its numbers
pub ones_list : {A : Type 0} (f : ℕ → A) (d : A) (xs : List A) (n : ℕ) → length xs ≡ n → ((k : ℕ) → k < n → f k ≡ get_or xs k d) → in_turn (λ j. f j ∷ []) n ≡ xs
ones_list f d xs n e same =
    ext_get_or d (in_turn (λ j. f j ∷ []) n) xs (length_ones f n ∙ sym e)
    (λ k h. let l : k < n = rw (length_ones f n) at h in at_ones f n k d l ∙ same k l)
