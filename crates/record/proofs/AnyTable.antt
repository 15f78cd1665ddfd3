-- What holds of every table. Assumes nothing.
use Prim.Native.Nat.{ℕ}
use mathlib.Core.Path.{◌≡◌, refl}
use mathlib.Core.List.{List, []}
use mathlib.Core.Bool.{true}
use native.Mathlib.Omega.{arith}
use lib.ListN.{length}
use Rattle.record.specs.Numbers.{Bytes}
use Rattle.record.specs.Fields.{Body, Field, bytes_of, Content, clear}
use Rattle.record.specs.Walk.{going, walk_from}
use Rattle.record.proofs.Back.{back}
use Rattle.record.proofs.Exact.{exact}

-- bytes read whole, as what they hold
abbrev pub Reads : List ℕ → List Field → List Body → Type 0
Reads bytes fs bodies = walk_from bytes fs (going 0 []) ≡ going (length bytes) bodies

-- bytes of the form
pub record Form (bytes : List ℕ) (fs : List Field) (bodies : List Body) : Type 0 where
  pub may : Content fs [] bodies
  pub form : bytes ≡ bytes_of fs bodies

-- 1: what is written reads back, all of it, with its length
pub reads_back : (fs : List Field) (bodies : List Body) → clear fs ≡ true → Content fs [] bodies → Reads (bytes_of fs bodies) fs bodies
reads_back fs bodies k m = back (bytes_of fs bodies) fs bodies [] 0 k m (omega arith) refl

-- 2: bytes read whole are exactly the bytes that writing gives
pub exactly : (bytes : List ℕ) (fs : List Field) (end : ℕ) (bodies : List Body) → Bytes bytes → walk_from bytes fs (going 0 []) ≡ going end bodies → Form bytes fs bodies × (end ≡ length bytes)
exactly bytes fs end bodies b w =
    let r = exact bytes b end bodies fs 0 [] (omega arith) w in
    let e = r.all in
    (record { may = rw e r.may; form = rw e r.form }, r.whole)

-- 3: there is no fault just where the bytes are of the form
pub no_fault : (bytes : List ℕ) (fs : List Field) (bodies : List Body) → clear fs ≡ true → Bytes bytes → (Reads bytes fs bodies → Form bytes fs bodies) × (Form bytes fs bodies → Reads bytes fs bodies)
no_fault bytes fs bodies k b = (λ w. (exactly bytes fs (length bytes) bodies b w).0, λ f. rw f.form (reads_back fs bodies k f.may))
