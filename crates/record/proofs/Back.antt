-- The bytes of what a record may hold are read back as just that, with their length, for any table
-- that is clear. Assumes nothing.
use Prim.Native.Nat.{ℕ, ◌+◌, ◌-◌, ◌≤◌, ◌<◌, ◌^◌}
use mathlib.Core.Path.{◌≡◌, refl, ap, sym, subst, ◌∙◌}
use mathlib.Core.Logic.{◌⊎◌, inl, inr, ⊎_elim}
use mathlib.Core.List.{List, [], ◌∷◌, ◌++◌, append_assoc, append-nil}
use mathlib.Core.Bool.{Bool, true, false, ◌&&◌, ◌||◌, not, or-true}
use native.Mathlib.Omega.{arith}
use native.Mathlib.Nat.{add_assoc}
use lib.Dec.{eqb, ltb}
use lib.ListN.{length, drop, length-append, length-drop}
use lib.Seq.{drop-drop, take_at, drop_at}
use borrow.Author.Tests.{ltb-true, eq-eqb}
use Rattle.record.specs.Numbers.{big, number_at}
use Rattle.record.specs.Fields.{Body, missing, body, Field, total, body_of, tagged, bytes_of, Fill, Content, may_come, clear}
use Rattle.record.specs.Walk.{going, away, look, numbers_at, taken, step, ended, none, walk_from}
use Rattle.ground.proofs.Tests.{both_hold}
use Rattle.record.proofs.Digits.{length_big, number_back}
use Rattle.record.proofs.Looks.{Here, looks_here, looks_none, looks_past}

length_body : (sizes numbers : List ℕ) → Fill sizes numbers → length (body_of sizes numbers) ≡ total sizes
length_body [] [] f = refl
length_body [] (x ∷ numbers) f = absurd f
length_body (size ∷ sizes) [] f = absurd f
length_body (size ∷ sizes) (x ∷ numbers) f = rw (length-append, length_big, length_body sizes numbers f.1)

-- what a clear table says of its first field
record Cleared (f : Field) (fs : List Field) : Type 0 where
  pub tag_fits : f.tag < 256
  pub size_fits : total f.sizes < 65536
  pub apart : (f.must || not (may_come f.tag fs)) ≡ true
  pub rest : clear fs ≡ true

cleared : (f : Field) (fs : List Field) → clear (f ∷ fs) ≡ true → Cleared f fs
cleared f fs k =
    let fits = ltb f.tag 256 && ltb (total f.sizes) 65536 in
    let apart = f.must || not (may_come f.tag fs) in
    let a = both_hold (fits && apart) (clear fs) k in
    let b = both_hold fits apart a.0 in
    let c = both_hold (ltb f.tag 256) (ltb (total f.sizes) 65536) b.0 in
    record { tag_fits = ltb-true f.tag 256 c.0; size_fits = ltb-true (total f.sizes) 65536 c.1; apart = b.1; rest = a.1 }

module _ (bytes : List ℕ) where
  after : (at n : ℕ) (xs ys : List ℕ) → drop at bytes ≡ xs ++ ys → length xs ≡ n → drop (at + n) bytes ≡ ys
  after at n xs ys e h = sym (drop-drop n at bytes) ∙ rw (e, drop_at xs ys n h)

  number_is : (at n x : ℕ) (ys : List ℕ) → drop at bytes ≡ big n x ++ ys → x < 256 ^ n → number_at bytes at n ≡ x
  number_is at n x ys e h = number_back bytes at n x (rw (e, take_at (big n x) ys n (length_big n x))) h

  numbers_are : (at : ℕ) (sizes numbers ys : List ℕ) → Fill sizes numbers → drop at bytes ≡ body_of sizes numbers ++ ys → numbers_at bytes at sizes ≡ numbers
  numbers_are at [] [] ys f e = refl
  numbers_are at [] (x ∷ numbers) ys f e = absurd f
  numbers_are at (size ∷ sizes) [] ys f e = absurd f
  numbers_are at (size ∷ sizes) (x ∷ numbers) ys f e =
      let e' : drop at bytes ≡ big size x ++ (body_of sizes numbers ++ ys) = e ∙ rw append_assoc in
      rw (number_is at size x (body_of sizes numbers ++ ys) e' f.0, numbers_are (at + size) sizes numbers ys f.1 (after at size (big size x) (body_of sizes numbers ++ ys) e' (length_big size x)))

  -- where a field of the table was written, it is looked for and found, with its numbers
  record Stands (f : Field) (at : ℕ) (numbers rest : List ℕ) : Type 0 where
    pub is_here : Here bytes at f.tag (total f.sizes)
    pub numbers_back : numbers_at bytes (at + 3) f.sizes ≡ numbers
    pub then : drop (at + 3 + total f.sizes) bytes ≡ rest

  stands : (f : Field) (at : ℕ) (numbers rest : List ℕ) → at ≤ length bytes → f.tag < 256 → total f.sizes < 65536 → Fill f.sizes numbers
      → drop at bytes ≡ tagged f.tag f.sizes numbers ++ rest → Stands f at numbers rest
  stands f at numbers rest h t s fill e =
      let size = total f.sizes in
      let inner = body_of f.sizes numbers in
      let a : drop at bytes ≡ big 1 f.tag ++ (big 2 size ++ (inner ++ rest)) = e ∙ simp append_assoc in
      let b : drop (at + 1) bytes ≡ big 2 size ++ (inner ++ rest) = after at 1 (big 1 f.tag) (big 2 size ++ (inner ++ rest)) a (length_big 1 f.tag) in
      let c : drop (at + 1 + 2) bytes ≡ inner ++ rest = after (at + 1) 2 (big 2 size) (inner ++ rest) b (length_big 2 size) in
      let d : drop (at + 3) bytes ≡ inner ++ rest = rw (← add_assoc at 1 2) c in
      let l : length bytes - at ≡ 1 + (2 + (size + length rest)) = sym (length-drop at bytes) ∙ ap length a ∙ simp (length-append, length_big, length_body f.sizes numbers fill) in
      record {
        is_here = record { tag_is = number_is at 1 f.tag _ a (omega arith); size_is = number_is (at + 1) 2 size _ b (omega arith); room = omega arith };
        numbers_back = numbers_are (at + 3) f.sizes numbers rest fill d;
        then = after (at + 3) size inner rest d (length_body f.sizes numbers fill);
      }

  -- the first field that was written is one that may come first
  first : (fs : List Field) (bodies before : List Body) (at : ℕ) → clear fs ≡ true → Content fs before bodies → at ≤ length bytes → drop at bytes ≡ bytes_of fs bodies
      → (length bytes ≤ at) ⊎ ((at + 3 ≤ length bytes) × (may_come (number_at bytes at 1) fs ≡ true))
  unfolding bytes_of
  first [] bodies before at k m h e = let l : length bytes - at ≡ 0 = sym (length-drop at bytes) ∙ ap length e in inl (omega arith)
  first (f ∷ fs) [] before at k m h e = absurd m
  first (f ∷ fs) (missing ∷ bodies) before at k m h e =
      ⊎_elim (λ n. inl n) (λ n. inr (n.0, rw (m.0, n.1) (or-true (eqb (number_at bytes at 1) f.tag))))
      (first fs bodies (before ++ (missing ∷ [])) at (cleared f fs k).rest m.1 h e)
  first (f ∷ fs) (body numbers ∷ bodies) before at k m h e =
      let s = stands f at numbers (bytes_of fs bodies) h (cleared f fs k).tag_fits (cleared f fs k).size_fits m.0.0 e in
      let room = s.is_here.room in
      inr (omega arith, rw (eq-eqb (number_at bytes at 1) f.tag s.is_here.tag_is))

  -- so a field that was not written is away
  gone : (f : Field) (fs : List Field) (at : ℕ) → f.must ≡ false → clear (f ∷ fs) ≡ true
      → (length bytes ≤ at) ⊎ ((at + 3 ≤ length bytes) × (may_come (number_at bytes at 1) fs ≡ true)) → look bytes at f.tag (total f.sizes) f.must (none fs) ≡ away
  gone f fs at m k (inl n) = rw m (looks_none bytes at f.tag (total f.sizes) (none fs) n)
  gone f [] at m k (inr n) = let e = n.1 in let z : ◌≡◌ {A = ℕ} 0 1 = cc in absurd (omega arith)
  gone f (g ∷ fs) at m k (inr n) =
      rw m (looks_past bytes at f.tag (total f.sizes) n.0 (λ e.
      let x : not (may_come f.tag (g ∷ fs)) ≡ true = rw m at (cleared f (g ∷ fs) k).apart in
      let y : may_come f.tag (g ∷ fs) ≡ true = subst (λ (t : ℕ). may_come t (g ∷ fs) ≡ true) e n.1 in
      let w : not true ≡ true = subst (λ (t : Bool). not t ≡ true) y x in
      let z : ◌≡◌ {A = ℕ} 0 1 = cc in omega arith))

  pub back : (fs : List Field) (bodies before : List Body) (at : ℕ) → clear fs ≡ true → Content fs before bodies → at ≤ length bytes → drop at bytes ≡ bytes_of fs bodies
      → walk_from bytes fs (going at before) ≡ going (length bytes) (before ++ bodies)
  unfolding walk_from step ended bytes_of taken
  back [] [] before at k m h e =
      let l : length bytes - at ≡ 0 = sym (length-drop at bytes) ∙ ap length e in
      let q : at ≡ length bytes = omega arith in
      rw (eq-eqb at (length bytes) q, append-nil, q)
  back [] (b ∷ bodies) before at k m h e = absurd m
  back (f ∷ fs) [] before at k m h e = absurd m
  back (f ∷ fs) (missing ∷ bodies) before at k m h e =
      rw (gone f fs at m.0 k (first fs bodies (before ++ (missing ∷ [])) at (cleared f fs k).rest m.1 h e))
      (back fs bodies (before ++ (missing ∷ [])) at (cleared f fs k).rest m.1 h e ∙ rw append_assoc)
  back (f ∷ fs) (body numbers ∷ bodies) before at k m h e =
      let s = stands f at numbers (bytes_of fs bodies) h (cleared f fs k).tag_fits (cleared f fs k).size_fits m.0.0 e in
      rw (looks_here bytes at f.tag (total f.sizes) f.must (none fs) s.is_here, s.numbers_back, m.0.1)
      (back fs bodies (before ++ (body numbers ∷ [])) (at + 3 + total f.sizes) (cleared f fs k).rest m.1 s.is_here.room s.then ∙ rw append_assoc)
