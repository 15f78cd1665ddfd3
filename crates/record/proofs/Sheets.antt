-- What is put on a sheet piece by piece is put whole. Assumes nothing.
use Prim.Native.Nat.{ℕ}
use mathlib.Core.Path.{◌≡◌, refl, sym, ◌∙◌}
use mathlib.Core.List.{List, [], ◌++◌, append-nil}
use native.Mathlib.Nat.{add-zero}
use native.Mathlib.Omega.{arith}
use lib.ListN.{length-append}
use lib.Seq.{length-sets}
use Rattle.ground.proofs.Stores.{then}
use Rattle.record.specs.declared.putting.Sheet.{Sheet}
use Rattle.record.specs.Sheet.{HasRoom, Puts}

-- nothing put, and one piece behind the other
pub puts_none : (p : Sheet) → Puts p [] p
puts_none p = record { same = refl; at = omega arith; out = refl }

pub puts_both : {p q r : Sheet} {xs ys zs : List ℕ} → Puts p xs q → Puts q ys r → xs ++ ys ≡ zs → Puts p zs r
puts_both {p} {q} {r} {xs} {ys} f g e =
    rw (← e)
    (record {
      same = g.same ∙ f.same;
      at = omega (arith, f.at, g.at, length-append xs ys);
      out = then p.out.now p.at q.at xs ys q.out.now r.out.now f.out g.out (sym f.at);
    })

-- where bytes fit, the first of them do, and behind these the others
pub room_first : {p : Sheet} {xs : List ℕ} (ys : List ℕ) → HasRoom p (xs ++ ys) → HasRoom p xs
room_first {xs = xs} ys h = record { fits = omega (arith, h.fits, length-append xs ys) }

pub room_left : {p q : Sheet} {xs ys : List ℕ} → HasRoom p (xs ++ ys) → Puts p xs q → HasRoom q ys
room_left {xs = xs} {ys = ys} h f = record { fits = rw (f.at, f.out, length-sets) (omega (arith, h.fits, length-append xs ys)) }

-- for the functions that put one piece behind the other
pub ruleset room = (room_first, room_left, append-nil, add-zero)
