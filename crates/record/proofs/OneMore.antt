-- One more field, that must be there, behind the fields of any table: what it does to writing and
-- to reading. Assumes nothing.
use Prim.Native.Nat.{ℕ}
use mathlib.Core.Path.{◌≡◌, refl, ap, sym, ◌∙◌}
use mathlib.Core.List.{List, [], ◌∷◌, ◌++◌, append_assoc, append-nil}
use mathlib.Core.Bool.{Bool, true, false, ◌&&◌, ◌||◌, not}
use native.Mathlib.Omega.{arith}
use lib.Dec.{ltb, eqb}
use lib.ListN.{length}
use borrow.Author.Tests.{eqb-false, ne_eqb}
use Rattle.ground.proofs.Tests.{both_hold}
use Rattle.record.specs.Numbers.{Bytes}
use Rattle.record.specs.Fields.{Body, missing, body, Field, total, tagged, field_of, bytes_of, May, Content, may_come, clear, absent}
use Rattle.record.proofs.AnyTable.{Reads, reads_back, exactly}

kept : (m x y : Bool) → (x ≡ false → y ≡ false) → (m || not x) ≡ true → (m || not y) ≡ true
kept true x y h e = refl
kept false false y h e = rw (h refl)
kept false true y h e = let z : ◌≡◌ {A = ℕ} 0 1 = cc in absurd (omega arith)

neither : (a b : Bool) → (a || b) ≡ false → (a ≡ false) × (b ≡ false)
neither false b e = (refl, e)
neither true b e = let z : ◌≡◌ {A = ℕ} 0 1 = cc in absurd (omega arith)

under : (m x y : Bool) → (x ≡ false → y ≡ false) → (m && x) ≡ false → (m && y) ≡ false
under true x y h e = h e
under false x y h e = refl

module _ (f : Field) where
  come_more : (tag : ℕ) (fs : List Field) → (tag ≡ f.tag → ⊥) → may_come tag fs ≡ false → may_come tag (fs ++ (f ∷ [])) ≡ false
  come_more tag [] n e = rw (ne_eqb tag f.tag n) (and_none (not f.must)) where
    and_none : (b : Bool) → (b && false) ≡ false
    and_none true = refl
    and_none false = refl
  come_more tag (g ∷ fs) n e =
      let p = neither (eqb tag g.tag) (not g.must && may_come tag fs) e in
      rw p.0 (under (not g.must) (may_come tag fs) (may_come tag (fs ++ (f ∷ []))) (come_more tag fs n) p.1)

  -- a table stays clear, if no field of it has the new tag
  pub clear_more : (fs : List Field) → f.must ≡ true → (ltb f.tag 256 && ltb (total f.sizes) 65536) ≡ true → absent f.tag fs ≡ true → clear fs ≡ true → clear (fs ++ (f ∷ [])) ≡ true
  clear_more [] m fits a k = rw (fits, m)
  clear_more (g ∷ fs) m fits a k =
      let fit = ltb g.tag 256 && ltb (total g.sizes) 65536 in
      let x = both_hold (fit && (g.must || not (may_come g.tag fs))) (clear fs) k in
      let y = both_hold fit (g.must || not (may_come g.tag fs)) x.0 in
      let z = both_hold (not (eqb g.tag f.tag)) (absent f.tag fs) a in
      let apart = kept g.must (may_come g.tag fs) (may_come g.tag (fs ++ (f ∷ []))) (come_more g.tag fs (eqb-false g.tag f.tag (not_true' (eqb g.tag f.tag) z.0))) y.1 in
      rw (y.0, apart, clear_more fs m fits z.1 x.1)
    where
      not_true' : (t : Bool) → not t ≡ true → t ≡ false
      not_true' true e = sym e
      not_true' false e = refl

  -- what it holds
  pub record Last (fs : List Field) (before all : List Body) : Type 0 where
    pub bodies : List Body
    pub numbers : List ℕ
    pub split : all ≡ bodies ++ (body numbers ∷ [])
    pub front : Content fs before bodies
    pub last : May f (before ++ bodies) (body numbers)

  last_one : (before : List Body) (b : Body) → f.must ≡ true → May f before b → Last [] before (b ∷ [])
  last_one before missing m y = let z : ◌≡◌ {A = ℕ} 0 1 = cc in absurd (omega arith)
  last_one before (body numbers) m y = record { bodies = []; numbers = numbers; split = refl; front = tt; last = rw append-nil y }

  pub content_less : (fs : List Field) (before all : List Body) → f.must ≡ true → Content (fs ++ (f ∷ [])) before all → Last fs before all
  content_less [] before [] m y = absurd y
  content_less [] before (b ∷ []) m y = last_one before b m y.0
  content_less [] before (b ∷ (d ∷ all)) m y = absurd y.1
  content_less (g ∷ fs) before [] m y = absurd y
  content_less (g ∷ fs) before (b ∷ all) m y =
      let r = content_less fs (before ++ (b ∷ [])) all m y.1 in
      record { bodies = b ∷ r.bodies; numbers = r.numbers; split = ap (λ (l : List Body). b ∷ l) r.split; front = (y.0, r.front); last = rw append_assoc at r.last }

  pub content_more : (fs : List Field) (before bodies : List Body) (numbers : List ℕ) → Content fs before bodies → May f (before ++ bodies) (body numbers) → Content (fs ++ (f ∷ [])) before (bodies ++ (body numbers ∷ []))
  content_more [] before [] numbers c y = (rw append-nil at y, tt)
  content_more [] before (b ∷ bodies) numbers c y = absurd c
  content_more (g ∷ fs) before [] numbers c y = absurd c
  content_more (g ∷ fs) before (b ∷ bodies) numbers c y = (c.0, content_more fs (before ++ (b ∷ [])) bodies numbers c.1 (rw append_assoc y))

  -- writing: its bytes stand behind the record without it
  pub writes_more : (fs : List Field) (before bodies : List Body) (numbers : List ℕ) → Content fs before bodies
      → bytes_of (fs ++ (f ∷ [])) (bodies ++ (body numbers ∷ [])) ≡ bytes_of fs bodies ++ tagged f.tag f.sizes numbers
  unfolding bytes_of
  writes_more [] before [] numbers c = append-nil (tagged f.tag f.sizes numbers)
  writes_more [] before (b ∷ bodies) numbers c = absurd c
  writes_more (g ∷ fs) before [] numbers c = absurd c
  writes_more (g ∷ fs) before (b ∷ bodies) numbers c = ap (λ (l : List ℕ). field_of g b ++ l) (writes_more fs (before ++ (b ∷ [])) bodies numbers c.1) ∙ sym (append_assoc (field_of g b) (bytes_of fs bodies) (tagged f.tag f.sizes numbers))

  -- reading: a record with it is a record without it, read as before, and the field behind that
  pub record Behind (fs : List Field) (bytes : List ℕ) (all : List Body) : Type 0 where
    pub bodies : List Body
    pub numbers : List ℕ
    pub front : List ℕ
    pub split : all ≡ bodies ++ (body numbers ∷ [])
    pub joined : bytes ≡ front ++ tagged f.tag f.sizes numbers
    pub reads : Reads front fs bodies
    pub last : May f bodies (body numbers)

  pub reads_less : (fs : List Field) (bytes : List ℕ) (all : List Body) → f.must ≡ true → clear fs ≡ true → Bytes bytes → Reads bytes (fs ++ (f ∷ [])) all → Behind fs bytes all
  reads_less fs bytes all m k b w =
      let r = (exactly bytes (fs ++ (f ∷ [])) (length bytes) all b w).0 in
      let l = content_less fs [] all m r.may in
      record {
        bodies = l.bodies;
        numbers = l.numbers;
        front = bytes_of fs l.bodies;
        split = l.split;
        joined = r.form ∙ ap (bytes_of (fs ++ (f ∷ []))) l.split ∙ writes_more fs [] l.bodies l.numbers l.front;
        reads = reads_back fs l.bodies k l.front;
        last = l.last;
      }

  pub reads_more : (fs : List Field) (front : List ℕ) (bodies : List Body) (numbers : List ℕ) → clear (fs ++ (f ∷ [])) ≡ true → Bytes front → Reads front fs bodies → May f bodies (body numbers)
      → Reads (front ++ tagged f.tag f.sizes numbers) (fs ++ (f ∷ [])) (bodies ++ (body numbers ∷ []))
  reads_more fs front bodies numbers k b w y =
      let r = (exactly front fs (length front) bodies b w).0 in
      let e = r.form in
      let j : front ++ tagged f.tag f.sizes numbers ≡ bytes_of (fs ++ (f ∷ [])) (bodies ++ (body numbers ∷ [])) = ap (λ (l : List ℕ). l ++ tagged f.tag f.sizes numbers) e ∙ sym (writes_more fs [] bodies numbers r.may) in
      rw j (reads_back (fs ++ (f ∷ [])) (bodies ++ (body numbers ∷ [])) k (content_more fs [] bodies numbers r.may y))
