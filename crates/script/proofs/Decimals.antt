-- Laws of a number's decimal digits. Assumes nothing.
use Prim.Native.Nat.{ℕ, zero, suc, ◌+◌, ◌-◌, ◌/◌, ◌%◌, ◌^◌, ◌≤◌, ◌<◌}
use mathlib.Core.Path.{◌≡◌, ◌∙◌}
use mathlib.Core.Bool.{Bool, true, false, cond}
use mathlib.Core.List.{List, [], ◌∷◌, ◌++◌}
use native.Mathlib.Nat.{pow-suc, mod-eq_of_lt}
use native.Mathlib.Omega.{arith}
use lib.Dec.{ltb}
use lib.ListN.{length, set, length-append}
use lib.Seq.{sets}
use borrow.Author.Tests.{lt-ltb, le-ltb}
use Rattle.script.specs.Decimal.{digits_by, decimal}
use Rattle.ground.proofs.Stores.{last_first}

one : (more n : ℕ) → n ≤ 9 → digits_by more n ≡ (48 + n) ∷ []
unfolding digits_by
one zero n h = rw (mod-eq_of_lt {n = n} {m = 10} (omega arith))
one (suc more) n h = rw (lt-ltb n 10 (omega arith))

several : (more n : ℕ) → 9 < n → digits_by (suc more) n ≡ digits_by more (n / 10) ++ ((48 + n % 10) ∷ [])
unfolding digits_by
several more n h = rw (le-ltb n 10 (omega arith))

-- room for one digit more than there are changes nothing
enough : (more n : ℕ) → n < 10 ^ suc more → digits_by more n ≡ digits_by (suc more) n
unfolding digits_by
enough zero n h = one zero n (omega (arith, rw pow-suc at h)) ∙ rw (lt-ltb n 10 (omega (arith, rw pow-suc at h)))
enough (suc more) n h = rw (enough more (n / 10) (omega (arith, rw pow-suc at h)))

-- a bound of two lists is one of whichever is picked
either : (first : Bool) (xs ys : List ℕ) (most : ℕ) → length xs ≤ most → length ys ≤ most → length (cond first xs ys) ≤ most
either true xs ys most p q = p
either false xs ys most p q = q

at_most : (more n : ℕ) → length (digits_by more n) ≤ suc more
unfolding digits_by
at_most zero n = omega arith
at_most (suc more) n = either (ltb n 10) _ _ _ (omega arith) (rw length-append (omega (arith, at_most more (n / 10))))

pub decimal_one : (n : ℕ) → n ≤ 9 → decimal n ≡ (48 + n) ∷ []
decimal_one n h = one 19 n h

pub decimal_more : (n : ℕ) → 9 < n → n < 2 ^ 64 → decimal n ≡ decimal (n / 10) ++ ((48 + n % 10) ∷ [])
decimal_more n h l = several 18 n h ∙ rw (enough 18 (n / 10) (omega arith))

pub length_decimal : (n : ℕ) → length (decimal n) ≤ 20
length_decimal n = at_most 19 n

pub length_more : (n : ℕ) → 9 < n → n < 2 ^ 64 → length (decimal n) ≡ 1 + length (decimal (n / 10))
length_more n h l = rw (decimal_more n h l, length-append) (omega arith)

-- a number's last digit stored before the others
pub digit_turn : (b : List ℕ) (at k n : ℕ) → 9 < n → n < 2 ^ 64 → k ≡ length (decimal n) → sets (set b (at + (k - 1)) (48 + n % 10)) at (decimal (n / 10)) ≡ sets b at (decimal n)
digit_turn b at k n h l e =
    let e' : k - 1 ≡ length (decimal (n / 10)) = omega (arith, length_more n h l) in
    rw (e', decimal_more n h l) (last_first b at (48 + n % 10) (decimal (n / 10)))
