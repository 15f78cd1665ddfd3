-- Laws of a number's bytes. Assumes nothing.
use Prim.Native.Nat.{ℕ, zero, suc, ◌+◌, ◌-◌, ◌*◌, ◌/◌, ◌%◌, ◌^◌, ◌<◌}
use mathlib.Core.Path.{◌≡◌, refl}
use mathlib.Core.List.{List, [], ◌∷◌, ◌++◌}
use native.Mathlib.Nat.{add-zero, add-suc, add_assoc, add-mul, mul_assoc, pow-suc, pow-le-pow_right, lt_of_lt_of_le}
use native.Mathlib.Numerals.{add-one}
use native.Mathlib.Omega.{arith}
use lib.Dec.{lit<}
use lib.ListN.{length, get_or, set, take, drop, length-take}
use lib.Seq.{sets, get_or-take, get_or-drop}
use Rattle.record.specs.Numbers.{big, number_at}
use Rattle.record.proofs.Digits.{length_big}
use Rattle.ground.proofs.Stores.{last_first}

pub read_none : (bytes : List ℕ) (at : ℕ) → number_at bytes at 0 ≡ 0
unfolding number_at
read_none bytes at = refl

pub read_more : (bytes : List ℕ) (at k : ℕ) → number_at bytes at (k + 1) ≡ number_at bytes at k * 256 + get_or bytes (at + k) 0
unfolding number_at
read_more bytes at k = rw (add-one k)

-- a byte of a part
module _ (bytes : List ℕ) (at size i : ℕ) (within : i < length (take (at + size - at) (drop at bytes))) where
  pub in_part : i < size
  in_part = omega (arith, length-take (at + size - at) (drop at bytes))

  pub part_byte : get_or (take (at + size - at) (drop at bytes)) i 0 ≡ get_or bytes (at + i) 0
  part_byte = let n : i < at + size - at = omega (arith, in_part) in rw (get_or-take, get_or-drop)

-- a number of fewer than 8 bytes has room for one more
pub room : (k x : ℕ) → k < 8 → x < 256 ^ k → x < 2 ^ 56
room k x h l = lt_of_lt_of_le l (pow-le-pow_right {n = 256} (lit< tt) {i = k} {j = 7} (omega arith))

pub grown : (k x b : ℕ) → x < 256 ^ k → b < 256 → x * 256 + b < 256 ^ (k + 1)
grown k x b h l = rw (add-one k, pow-suc) (omega arith)

put_more : (k x : ℕ) → big (k + 1) x ≡ big k (x / 256) ++ (x % 256 ∷ [])
unfolding big
put_more k x = rw (add-one k)

-- a number's last byte stored before the others
pub put_turn : (b : List ℕ) (at j k x : ℕ) → j + 1 ≡ k → sets (set b (at + j) (x % 256)) at (big j (x / 256)) ≡ sets b at (big k x)
put_turn b at j k x e = rw (← e, put_more j x, ← last_first b at (x % 256) (big j (x / 256)), length_big j (x / 256))

pub put_none : (b : List ℕ) (at k x : ℕ) → k ≡ 0 → b ≡ sets b at (big k x)
unfolding big
put_none b at k x e = rw e

-- a number in two parts
pub in_parts : (bytes : List ℕ) (at m n : ℕ) → number_at bytes at (m + n) ≡ number_at bytes at m * 256 ^ n + number_at bytes (at + m) n
unfolding number_at
in_parts bytes at m zero = rw add-zero (omega arith)
in_parts bytes at m (suc n) =
    rw (add-suc, in_parts bytes at m n, pow-suc, add-mul, mul_assoc, ← add_assoc at m n) (omega arith)
