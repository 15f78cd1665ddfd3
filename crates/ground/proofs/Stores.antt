-- Laws of stores into a list: of one element, and of several one after the other. Assumes nothing.
use Prim.Native.Nat.{ℕ, zero, suc, ◌+◌, ◌<◌, ◌≤◌}
use mathlib.Core.Path.{◌≡◌, refl, ap, ◌∙◌}
use mathlib.Core.Bool.{cond}
use mathlib.Core.List.{List, [], ◌∷◌, ◌++◌, append-nil}
use mathlib.Core.Logic.{⊎_elim}
use native.Mathlib.Nat.{add-zero, add-suc, suc-add, zero-add}
use native.Mathlib.Omega.{arith}
use native.Mathlib.Decide.{ℕ_discrete}
use lib.Dec.{eqb}
use lib.ListN.{length, get_or, drop, set, drop_of_length-le}
use lib.Seq.{sets, sets-eq, set_comm, get_or-set_same, get_or-set_other}
use borrow.Author.Tests.{eq-eqb, ne_eqb}
use Rattle.ground.proofs.Tests.{below_or_last}

-- after a store at k the element at j is the stored one, and then j is k, or the one that was there
pub stored : {A : Type 0} (P : A → Type 0) {v : A} (xs : List A) (k j : ℕ) (d : A) → (j ≡ k → P v) → P (get_or xs j d) → P (get_or (set xs k v) j d)
stored P [] k j d new old = old
stored P (x ∷ xs) zero zero d new old = new refl
stored P (x ∷ xs) zero (suc j) d new old = old
stored P (x ∷ xs) (suc k) zero d new old = old
stored P (x ∷ xs) (suc k) (suc j) d new old = stored P xs k j d (λ e. new (ap suc e)) old

-- after a store at k there stands at j the stored one, or the one that was there
pub at_put : {A : Type 0} (xs : List A) (k j : ℕ) (v d : A) → k < length xs → get_or (set xs k v) j d ≡ cond (eqb j k) v (get_or xs j d)
at_put {A} xs k j v d h = by (ℕ_discrete j k)
  where
    by : Dec (j ≡ k) → get_or (set xs k v) j d ≡ cond (eqb j k) v (get_or xs j d)
    by (yes e) = rw (eq-eqb j k e, e) (get_or-set_same xs k v d h)
    by (no n) = rw (ne_eqb j k n) (get_or-set_other xs k j v d n)

-- a row that is filled from the front has one more as it should be
pub one_more : {A : Type 0} (d : A) (row whole : List A) (p : ℕ) (v : A) → p < length row → ((q : ℕ) → q < p → get_or row q d ≡ get_or whole q d)
    → v ≡ get_or whole p d → (q : ℕ) → q < p + 1 → get_or (set row p v) q d ≡ get_or whole q d
one_more d row whole p v h old e q l =
    ⊎_elim (λ (less : q < p). get_or-set_other row p q v d (λ f. omega arith) ∙ old q less)
    (λ (same : p ≡ q). rw (← same) (get_or-set_same row p v d h ∙ e)) (below_or_last p q (omega arith))

-- an element put back where it stood
pub set_same : {A : Type 0} (xs : List A) (k : ℕ) (d : A) → set xs k (get_or xs k d) ≡ xs
set_same [] k d = refl
set_same (x ∷ xs) zero d = refl
set_same {A = A} (x ∷ xs) (suc k) d = ap (λ (rest : List A). x ∷ rest) (set_same xs k d)

-- two stores at one place
pub set_twice : {A : Type 0} (xs : List A) (k : ℕ) (a d : A) (f : A → A) → set (set xs k a) k (f (get_or (set xs k a) k d)) ≡ set xs k (f a)
set_twice [] k a d f = refl
set_twice (x ∷ xs) zero a d f = refl
set_twice {A = A} (x ∷ xs) (suc k) a d f = ap (λ (rest : List A). x ∷ rest) (set_twice xs k a d f)

-- what comes last may be stored first
pub last_first : (b : List ℕ) (at d : ℕ) (xs : List ℕ) → sets (set b (at + length xs) d) at xs ≡ sets b at (xs ++ (d ∷ []))
last_first b at d [] = rw (add-zero at)
last_first b at d (x ∷ xs) =
    rw (set_comm b (at + suc (length xs)) at d x (λ e. omega arith), add-suc at (length xs), ← suc-add at (length xs)) (last_first (set b at x) (suc at) d xs)

-- what is stored behind other elements is stored with them
joined : {A : Type 0} (b : List A) (at next : ℕ) (xs ys : List A) → at + length xs ≡ next → sets (sets b at xs) next ys ≡ sets b at (xs ++ ys)
joined b at next [] ys e = ap (λ (n : ℕ). sets b n ys) (omega arith)
joined b at next (x ∷ xs) ys e = joined (set b at x) (suc at) next xs ys (omega arith)

pub then : {A : Type 0} (b : List A) (at next : ℕ) (xs ys a a' : List A) → a ≡ sets b at xs → a' ≡ sets a next ys → at + length xs ≡ next → a' ≡ sets b at (xs ++ ys)
then b at next xs ys a a' e e' h = rw (e', e) (joined b at next xs ys h)

pub in_front_lem : (b xs : List ℕ) → length xs ≤ length b → sets b 0 xs ≡ xs ++ drop (length xs) b
in_front_lem b xs h = sets-eq xs b 0 (rw zero-add h) ∙ rw zero-add

-- what is stored over a whole list is all of it
pub whole : {A : Type 0} (b xs : List A) → length xs ≡ length b → sets b 0 xs ≡ xs
whole b xs e = sets-eq xs b 0 (omega arith) ∙ rw (drop_of_length-le b {i = 0 + length xs} (omega arith)) (append-nil xs)

-- five numbers stored one after the other
pub five : (b : List ℕ) (at v w x y z : ℕ)
    → set (set (set (set (set b at v) (at + 1) w) (at + 2) x) (at + 3) y) (at + 4) z ≡ sets b at (v ∷ w ∷ x ∷ y ∷ z ∷ [])
five b at v w x y z =
    let one : suc at ≡ at + 1 = omega arith in
    let two : suc (suc at) ≡ at + 2 = omega arith in
    let three : suc (suc (suc at)) ≡ at + 3 = omega arith in
    let four : suc (suc (suc (suc at))) ≡ at + 4 = omega arith in
    rw (← one, ← two, ← three, ← four)
