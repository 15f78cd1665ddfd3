-- Lines read one after the other: what is still to be read, where they end, and the numbers that
-- they are read into. Assumes nothing.
use Rattle.std.proofs.Common.{Option, Some, None}
use Prim.Native.Nat.{ℕ, zero, suc, ◌+◌, ◌-◌, ◌*◌, ◌≤◌, ◌<◌}
use mathlib.Core.Path.{◌≡◌, refl, sym, ap, ◌∙◌}
use mathlib.Core.Bool.{Bool, true, false, cond}
use mathlib.Core.List.{List, [], ◌∷◌}
use mathlib.Core.Logic.{◌⊎◌, inl, inr, ⊎_elim}
use native.Mathlib.Omega.{arith}
use Rattle.steps.specs.declared.asked.Step.{Step}
use borrow.Author.Tests.{lt-ltb, le-ltb, ltb-true, ltb-false}
use lib.Dec.{ltb}
use lib.ListN.{length, drop, length-append, length-drop}
use lib.Seq.{sets, length-sets}
use Rattle.ground.proofs.Stores.{then}
use Rattle.ground.proofs.Tests.{below_or_not}
use Rattle.steps.specs.declared.asked.Step.TheVariants.{Add, Draw, Send, Deliver, Lose}
use Rattle.steps.specs.Running.{asked_in, numbers_for}
use Rattle.script.specs.Words.{index_of, past}
use Rattle.script.specs.Lines.{line_of}
use Rattle.script.specs.Reading.{line_at, lines_from, numbers_for_all, past_line, past_lines, lines_read}

-- a position within the script moves on, and not past the end
onward_by : (at i n : ℕ) (inside : Bool) → at < n → at < cond inside (at + i + 1) n
onward_by at i n true h = omega arith
onward_by at i n false h = h

within_by : (at i n m : ℕ) (inside : Bool) → ltb i m ≡ inside → m ≡ n - at → cond inside (at + i + 1) n ≤ n
within_by at i n m true e f = omega (arith, ltb-true i m e)
within_by at i n m false e f = omega arith

left_behind : (at i n m : ℕ) (inside : Bool) → ltb i m ≡ inside → m ≡ n - at → n - (m - (i + 1)) ≡ cond inside (at + i + 1) n
left_behind at i n m true e f = omega (arith, ltb-true i m e)
left_behind at i n m false e f = omega (arith, ltb-false i m e)

module _ (script : List ℕ) (at : ℕ) where
  pub past_onward : at < length script → at < past_line script at
  past_onward h = onward_by at (index_of 10 (drop at script)) (length script) (ltb (index_of 10 (drop at script)) (length (drop at script))) h

  pub past_within : past_line script at ≤ length script
  past_within =
      let rest = drop at script in
      within_by at (index_of 10 rest) (length script) (length rest) (ltb (index_of 10 rest) (length rest)) refl (length-drop at script)

  -- what is left past the line tells the position
  pub past_is : length script - length (past 10 (drop at script)) ≡ past_line script at
  past_is =
      let rest = drop at script in
      rw length-drop (left_behind at (index_of 10 rest) (length script) (length rest) (ltb (index_of 10 rest) (length rest)) refl (length-drop at script))

  -- the next line, and none
  pub lines_more : (most : ℕ) → at < length script → lines_from (suc most) script at ≡ line_of (line_at script at) ∷ lines_from most script (past_line script at)
  unfolding lines_from
  lines_more most h = rw (lt-ltb at (length script) h)

  pub lines_none : (most : ℕ) → length script ≤ at → lines_from most script at ≡ []
  unfolding lines_from
  lines_none zero h = refl
  lines_none (suc most) h = rw (le-ltb at (length script) h)

  pub past_more : (most : ℕ) → at < length script → past_lines (suc most) script at ≡ past_lines most script (past_line script at)
  unfolding past_lines
  past_more most h = rw (lt-ltb at (length script) h)

  pub past_none : (most : ℕ) → length script ≤ at → past_lines most script at ≡ at
  unfolding past_lines
  past_none zero h = refl
  past_none (suc most) h = rw (le-ltb at (length script) h)

pub lines_zero : (script : List ℕ) (at : ℕ) → lines_from 0 script at ≡ []
unfolding lines_from
lines_zero script at = refl

pub past_zero : (script : List ℕ) (at : ℕ) → past_lines 0 script at ≡ at
unfolding past_lines
past_zero script at = refl

-- no more lines than were asked for, each of them moves the position on, and none past the script's
-- end
pub lines_few : (most : ℕ) (script : List ℕ) (at : ℕ) → length (lines_from most script at) ≤ most
lines_few zero script at = rw (lines_zero script at) (omega arith)
lines_few (suc most) script at =
    ⊎_elim
    (λ (h : at < length script). rw (lines_more script at most h) (omega (arith, lines_few most script (past_line script at))))
    (λ (h : length script ≤ at). rw (lines_none script at (suc most) h) (omega arith))
    (below_or_not at (length script))

pub lines_onward : (most : ℕ) (script : List ℕ) (at : ℕ) → at + length (lines_from most script at) ≤ past_lines most script at
lines_onward zero script at = rw (lines_zero script at, past_zero script at) (omega arith)
lines_onward (suc most) script at =
    ⊎_elim
    (λ (h : at < length script).
    rw (lines_more script at most h, past_more script at most h) (omega (arith, past_onward script at h, lines_onward most script (past_line script at))))
    (λ (h : length script ≤ at). rw (lines_none script at (suc most) h, past_none script at (suc most) h) (omega arith))
    (below_or_not at (length script))

pub lines_within : (most : ℕ) (script : List ℕ) (at : ℕ) → at ≤ length script → past_lines most script at ≤ length script
lines_within zero script at l = rw (past_zero script at) l
lines_within (suc most) script at l =
    ⊎_elim
    (λ (h : at < length script). rw (past_more script at most h) (lines_within most script (past_line script at) (past_within script at)))
    (λ (h : length script ≤ at). rw (past_none script at (suc most) h) l)
    (below_or_not at (length script))

pub lines_some : (most : ℕ) (script : List ℕ) (at : ℕ) → 0 < most → at < length script → 0 < length (lines_from most script at)
lines_some zero script at m h = absurd (omega arith)
lines_some (suc most) script at m h = rw (lines_more script at most h) (omega arith)

-- three numbers for each line, which name what it asks for
pub length_three : (x : Option Step) → length (numbers_for x) ≡ 3
length_three None = refl
length_three (Some (Add k amount)) = refl
length_three (Some (Draw k amount)) = refl
length_three (Some (Send from to)) = refl
length_three (Some (Deliver p)) = refl
length_three (Some (Lose p)) = refl

pub length_numbers : (xs : List (Option Step)) → length (numbers_for_all xs) ≡ 3 * length xs
unfolding numbers_for_all
length_numbers [] = refl
length_numbers (x ∷ xs) = rw (length-append, length_three x, length_numbers xs) (omega arith)

pub numbers_asked : (xs : List (Option Step)) → asked_in (length xs) (numbers_for_all xs) ≡ xs
unfolding numbers_for_all asked_in
numbers_asked [] = refl
numbers_asked (None ∷ xs) = rw (numbers_asked xs)
numbers_asked (Some (Add k amount) ∷ xs) = rw (numbers_asked xs)
numbers_asked (Some (Draw k amount) ∷ xs) = rw (numbers_asked xs)
numbers_asked (Some (Send from to) ∷ xs) = rw (numbers_asked xs)
numbers_asked (Some (Deliver p) ∷ xs) = rw (numbers_asked xs)
numbers_asked (Some (Lose p) ∷ xs) = rw (numbers_asked xs)

-- Some lines are read: the numbers, the lines and the position, with those still to be read, are
-- those of all lines.
pub record Reading (script : List ℕ) (start most : ℕ) (codes₀ codes : List ℕ) (at lines : ℕ) : Type 0 where
  pub few : lines ≤ most
  pub same : length codes ≡ length codes₀
  pub put : sets codes (3 * lines) (numbers_for_all (lines_from (most - lines) script at)) ≡ sets codes₀ 0 (numbers_for_all (lines_from most script start))
  pub count : lines + length (lines_from (most - lines) script at) ≡ length (lines_from most script start)
  pub past : past_lines (most - lines) script at ≡ past_lines most script start

module _ (script : List ℕ) (start most : ℕ) (codes₀ : List ℕ) where
  pub none_read : Reading script start most codes₀ codes₀ start 0
  none_read =
      let all : most - 0 ≡ most = omega arith in
      record {
        few = omega arith;
        same = refl;
        put = ap (λ (n : ℕ). sets codes₀ 0 (numbers_for_all (lines_from n script start))) all;
        count = ap (λ (n : ℕ). 0 + length (lines_from n script start)) all ∙ omega arith;
        past = ap (λ (n : ℕ). past_lines n script start) all;
      }

  module _ (codes : List ℕ) (at lines : ℕ) (r : Reading script start most codes₀ codes at lines) where
    pub line_read : (codes' : List ℕ) {x : Option Step} → lines < most → at < length script → x ≡ line_of (line_at script at) → codes' ≡ sets codes (3 * lines) (numbers_for x)
        → Reading script start most codes₀ codes' (past_line script at) (lines + 1)
    unfolding numbers_for_all
    line_read codes' {x} f h e s =
        let left = most - (lines + 1) in
        let xs = lines_from left script (past_line script at) in
        let one : most - lines ≡ suc left = omega arith in
        let more : lines_from (most - lines) script at ≡ x ∷ xs = ap (λ (n : ℕ). lines_from n script at) one ∙ lines_more script at left h ∙ rw e in
        let behind : 3 * lines + length (numbers_for x) ≡ 3 * (lines + 1) = omega (arith, length_three x) in
        record {
          few = omega arith;
          same = ap length s ∙ length-sets codes (3 * lines) (numbers_for x) ∙ r.same;
          put =
              then codes (3 * lines) (3 * (lines + 1)) (numbers_for x) (numbers_for_all xs) codes' _ s refl behind
              ∙ ap (λ (l : List (Option Step)). sets codes (3 * lines) (numbers_for_all l)) (sym more)
              ∙ r.put;
          count = omega (arith, ap length more, r.count);
          past = sym (past_more script at left h) ∙ ap (λ (n : ℕ). past_lines n script at) (sym one) ∙ r.past;
        }

    ended : (most - lines ≡ 0) ⊎ (length script ≤ at) → (lines_from (most - lines) script at ≡ []) × (past_lines (most - lines) script at ≡ at)
    ended (inl e) = rw e (lines_zero script at, past_zero script at)
    ended (inr h) = (lines_none script at (most - lines) h, past_none script at (most - lines) h)

    -- so many lines were asked for, or the script has no more
    pub all_read : (n : ℕ) → n ≡ lines → (most - lines ≡ 0) ⊎ (length script ≤ at)
        → (record { lines = n; at = at } ≡ lines_read most script start) × (codes ≡ sets codes₀ 0 (numbers_for_all (lines_from most script start)))
    unfolding numbers_for_all
    all_read n e over =
        let none = ended over in
        let count : n ≡ length (lines_from most script start) = omega (arith, ap length none.0, r.count) in
        let past : at ≡ past_lines most script start = sym none.1 ∙ r.past in
        (rw (← count, ← past), rw none.0 at r.put)
