-- What is put piece by piece is put whole. Assumes nothing.
use Prim.Native.Nat.{ℕ, ◌+◌, ◌≤◌}
use mathlib.Core.Path.{◌≡◌, refl, sym, ◌∙◌}
use mathlib.Core.List.{List, [], ◌++◌}
use native.Mathlib.Omega.{arith}
use lib.ListN.{length, take, drop, length-append}
use lib.Seq.{sets, sets-eq, length-sets, take_at, take-length}
use borrow.Rule.Slice.PartMut.{put_mid}
use Rattle.std.proofs.lemmas.Slice.{put_mid-paste}
use Rattle.ground.proofs.Stores.{in_front_lem, then}
use Rattle.script.specs.declared.printing.Page.{Page}
use Rattle.script.specs.Page.{HasRoom, Puts}

-- a text copied over a part of the buffer
pub copied : (b : List ℕ) (at k : ℕ) (ys xs : List ℕ) → ys ≡ xs → k ≡ length xs → at + length xs ≤ length b → put_mid at k b ys ≡ sets b at xs
copied b at k ys xs e f h = put_mid-paste at k b ys xs (length xs) e (sym f) refl ∙ rw (take-length, sets-eq xs b at h)

-- two puts, the second from where the first ended
pub both : (b : List ℕ) (at : ℕ) (xs ys : List ℕ) (next end : ℕ) (a a' : List ℕ) → (next ≡ at + length xs) × (a ≡ sets b at xs) → (end ≡ next + length ys) × (a' ≡ sets a next ys) → (end ≡ at + length (xs ++ ys)) × (a' ≡ sets b at (xs ++ ys))
both b at xs ys next end a a' e e' = (rw length-append (omega arith), then b at next xs ys a a' e.1 e'.1 (sym e.0))

-- a page on which nothing more is put, and one on which two texts are put one behind the other
pub puts_none : (p : Page) → Puts p [] p
puts_none p = record { same = refl; at = omega arith; out = refl }

pub puts_both : {p q r : Page} {xs ys zs : List ℕ} → Puts p xs q → Puts q ys r → xs ++ ys ≡ zs → Puts p zs r
puts_both {p} {q} {r} {xs} {ys} f g e =
    let put = both p.out.now p.at xs ys q.at r.at q.out.now r.out.now (f.at, f.out) (g.at, g.out) in
    rw (← e) (record { same = g.same ∙ f.same; at = put.0; out = put.1 })

pub puts_to : {p q : Page} {xs ys : List ℕ} → xs ≡ ys → Puts p xs q → Puts p ys q
puts_to e f = rw (← e) f

-- the room of a page that was begun on a buffer, and what room is left behind a text
pub fresh_room : {b : List ℕ} (p : Page) (n : ℕ) → p.at ≡ 0 → p.out.now ≡ b → n ≤ length b → HasRoom p n
fresh_room p n e g h = rw (e, g) (omega arith)

pub room_left : {p q : Page} {xs : List ℕ} (n m : ℕ) → HasRoom p n → Puts p xs q → length xs + m ≤ n → HasRoom q m
room_left {p} {q} {xs} n m h f l = rw (f.at, f.out, length-sets) (omega arith)

-- what is put on a page that was begun on a buffer stands at the buffer's front
pub whole_page : {b xs : List ℕ} {p q : Page} → p.at ≡ 0 → p.out.now ≡ b → Puts p xs q → (q.at ≡ length xs) × (q.out.now ≡ sets b 0 xs)
whole_page e g f = (omega (arith, f.at), f.out ∙ rw (e, g))

-- the first bytes of a list into whose front some were put are those
pub put_first : (b xs : List ℕ) (n : ℕ) → n ≡ length xs → length xs ≤ length b → take n (sets b 0 xs) ≡ xs
put_first b xs n e h = rw (in_front_lem b xs h) (take_at xs (drop (length xs) b) n (sym e))
