-- A number and its bytes: each is found again from the other. Assumes nothing.
use Prim.Native.Nat.{ℕ, zero, suc, ◌+◌, ◌/◌, ◌%◌, ◌^◌, ◌≤◌, ◌<◌}
use mathlib.Core.Path.{◌≡◌, refl, sym, ◌∙◌}
use mathlib.Core.List.{List, [], ◌∷◌, ◌++◌}
use native.Mathlib.Omega.{arith}
use native.Mathlib.Nat.{zero-add, div-add-mod', pow-suc}
use lib.Arith.{digits_lt, digits_div, digits_mod}
use lib.ListN.{length, get_or, take, drop, length-append, length-drop, take-append-drop, get_or-append}
use lib.Seq.{take-suc, drop-drop, get_or-take, get_or-drop, get_or_at}
use Rattle.record.specs.Numbers.{Bytes, big, number_at}

pub bytes_both : (a b : List ℕ) → Bytes a → Bytes b → Bytes (a ++ b)
bytes_both [] b p q k = q k
bytes_both (x ∷ a) b p q zero = p 0
bytes_both (x ∷ a) b p q (suc k) = bytes_both a b (λ i. p (suc i)) q k

bytes_one : (x : ℕ) → x < 256 → Bytes (x ∷ [])
bytes_one x h zero = h
bytes_one x h (suc k) = omega arith

pub big_bytes : (n x : ℕ) → Bytes (big n x)
unfolding big
big_bytes zero x k = omega arith
big_bytes (suc n) x k = bytes_both (big n (x / 256)) (x % 256 ∷ []) (big_bytes n (x / 256)) (bytes_one (x % 256) (omega arith)) k

pub length_big : (n x : ℕ) → length (big n x) ≡ n
unfolding big
length_big zero x = refl
length_big (suc n) x = let e = length_big n (x / 256) in simp (length-append, e) (omega arith)

-- a number depends only on the bytes at its place
pub number_same : (a b : List ℕ) (i j n : ℕ) → ((k : ℕ) → k < n → get_or a (i + k) 0 ≡ get_or b (j + k) 0) → number_at a i n ≡ number_at b j n
unfolding number_at
number_same a b i j zero f = refl
number_same a b i j (suc n) f = rw (number_same a b i j n (λ k h. f k (omega arith)), f n (omega arith))

number_big : (n x : ℕ) → x < 256 ^ n → number_at (big n x) 0 n ≡ x
unfolding big number_at
number_big zero x h = omega arith
number_big (suc n) x h =
    let d = x / 256 in
    let low = x % 256 in
    let high : d < 256 ^ n = omega (arith, rw pow-suc at h) in
    let front = number_same (big n d ++ low ∷ []) (big n d) 0 0 n (λ k i. get_or-append (big n d) (low ∷ []) 0 (0 + k) (rw length_big (omega arith))) in
    rw (front, number_big n d high, zero-add, get_or_at (big n d) low [] 0 n (length_big n d)) (div-add-mod' x 256)

-- where the bytes of a number stand, that number is read
pub number_back : (bytes : List ℕ) (at n x : ℕ) → take n (drop at bytes) ≡ big n x → x < 256 ^ n → number_at bytes at n ≡ x
number_back bytes at n x e h =
    number_same bytes (big n x) at 0 n (λ k i. rw (← e, zero-add, get_or-take, get_or-drop)) ∙ number_big n x h

pub number_below : (bytes : List ℕ) (at n : ℕ) → Bytes bytes → number_at bytes at n < 256 ^ n
unfolding number_at
number_below bytes at zero b = omega arith
number_below bytes at (suc n) b = rw pow-suc (digits_lt (number_below bytes at n b) (b (at + n)))

-- where a number is read, its bytes stand
pub digits : (bytes : List ℕ) (at n : ℕ) → Bytes bytes → at + n ≤ length bytes → take n (drop at bytes) ≡ big n (number_at bytes at n)
unfolding big number_at
digits bytes at zero b h = refl
digits bytes at (suc n) b h =
    let q = number_at bytes at n in
    let low = b (at + n) in
    let room : n < length (drop at bytes) = rw length-drop (omega arith) in
    rw (digits_div q low, digits_mod q low, take-suc (drop at bytes) n 0, get_or-drop, digits bytes at n b (omega arith))

pub digits_first : (bytes : List ℕ) (at n : ℕ) → Bytes bytes → at + n ≤ length bytes → drop at bytes ≡ big n (number_at bytes at n) ++ drop (at + n) bytes
digits_first bytes at n b h = rw (← digits bytes at n b h, ← drop-drop) (sym (take-append-drop n (drop at bytes)))
