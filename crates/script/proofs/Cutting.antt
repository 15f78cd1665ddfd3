-- Where a byte stands first in a list, and what the list is past it. Assumes nothing.
use Rattle.std.proofs.Common.{Some, None}
use Prim.Native.Nat.{ℕ, suc, ◌+◌, ◌-◌, ◌≤◌}
use mathlib.Core.Path.{◌≡◌, refl, sym}
use mathlib.Core.Bool.{Bool, true, false, cond, not}
use mathlib.Core.List.{List, [], ◌∷◌}
use native.Mathlib.Omega.{arith}
use borrow.Author.Tests.{ltb-false}
use lib.Dec.{eqb, ltb}
use lib.ListN.{length, take, drop, length-drop, drop_of_length-le}
use lib.Seq.{take_all}
use Rattle.std.specs.List.{position_or_len}
use Rattle.std.specs.Prelude.{position}
use Rattle.script.specs.Words.{index_of, past, up_to}

-- the library's search for a byte ends where the definition's does
first_by : (t : Bool) (i j : ℕ) → i ≡ j → cond (not t) (1 + i) 0 ≡ cond t 0 (suc j)
first_by true i j e = refl
first_by false i j e = omega arith

first_is : (byte : ℕ) (xs : List ℕ) → position_or_len (λ x. eqb x byte) xs ≡ index_of byte xs
first_is byte [] = refl
first_is byte (x ∷ xs) = first_by (eqb x byte) _ _ (first_is byte xs)

found_by : {k : ℕ} (i n : ℕ) (inside : Bool) → Some k ≡ cond inside (Some i) None → k ≡ i
found_by i n true e = cc
found_by i n false e = cc

none_by : (i n : ℕ) (inside : Bool) → ltb i n ≡ inside → None ≡ cond inside (Some i) None → n ≤ i
none_by i n true e f = cc
none_by i n false e f = ltb-false i n e

module _ (byte : ℕ) (xs : List ℕ) where
  pub found_at : {k : ℕ} → Some k ≡ position (λ x. eqb x byte) xs → k ≡ index_of byte xs
  found_at e = found_by (index_of byte xs) (length xs) (ltb (index_of byte xs) (length xs)) (rw (first_is byte xs) at e)

  pub found_none : None ≡ position (λ x. eqb x byte) xs → length xs ≤ index_of byte xs
  found_none e = none_by (index_of byte xs) (length xs) (ltb (index_of byte xs) (length xs)) refl (rw (first_is byte xs) at e)

within_by : (t : Bool) (i n : ℕ) → i ≤ n → cond t 0 (suc i) ≤ suc n
within_by true i n h = omega arith
within_by false i n h = omega arith

pub index_within : (byte : ℕ) (xs : List ℕ) → index_of byte xs ≤ length xs
index_within byte [] = omega arith
index_within byte (x ∷ xs) = within_by (eqb x byte) (index_of byte xs) (length xs) (index_within byte xs)

-- the parts of a list that is cut there
module _ (byte : ℕ) (xs : List ℕ) (i : ℕ) (e : i ≡ index_of byte xs) where
  pub front : take i xs ≡ up_to byte xs
  front = rw e

  pub behind : take (length xs - (i + 1)) (drop (i + 1) xs) ≡ past byte xs
  behind = rw (← e) (take_all (length xs - (i + 1)) (drop (i + 1) xs) (rw length-drop (omega arith)))

module _ (byte : ℕ) (xs : List ℕ) (h : length xs ≤ index_of byte xs) where
  pub whole : xs ≡ up_to byte xs
  whole = sym (take_all (index_of byte xs) xs h)

  pub nothing : [] ≡ past byte xs
  nothing = rw (drop_of_length-le xs {i = index_of byte xs + 1} (omega arith))
