-- What numbers ask for, one step at a time. Assumes nothing.
use Rattle.std.proofs.Common.{Option}
use Prim.Native.Nat.{ℕ, suc, ◌+◌, ◌*◌, ◌-◌, ◌<◌, ◌≤◌}
use mathlib.Core.Path.{◌≡◌}
use mathlib.Core.List.{List, [], ◌∷◌}
use native.Mathlib.Nat.{add-zero, sub-zero}
use native.Mathlib.Omega.{arith}
use Rattle.steps.specs.declared.asked.Step.{Step}
use lib.ListN.{get_or, drop}
use lib.Seq.{get_or-drop}
use Rattle.std.proofs.lemmas.List.{drop-drop}
use Rattle.steps.specs.Running.{asked_by, asked_in}

-- what is left to be asked for past n steps
abbrev pub asked_from : List ℕ → ℕ → ℕ → List (Option Step)
asked_from codes steps n = asked_in (steps - n) (drop (3 * n) codes)

pub asked_start : (codes : List ℕ) (steps : ℕ) → asked_from codes steps 0 ≡ asked_in steps codes
asked_start codes steps = rw (sub-zero steps)

pub asked_on : (codes : List ℕ) (steps n : ℕ) → n < steps
    → asked_from codes steps n ≡ asked_by (get_or codes (3 * n) 0) (get_or codes (3 * n + 1) 0) (get_or codes (3 * n + 2) 0) ∷ asked_from codes steps (n + 1)
unfolding asked_in
asked_on codes steps n h =
    let e : steps - n ≡ suc (steps - (n + 1)) = omega arith in
    let f : 3 * n + 3 ≡ 3 * (n + 1) = omega arith in
    rw (e, get_or-drop (3 * n) codes 0 0, add-zero, get_or-drop (3 * n) codes 1 0, get_or-drop (3 * n) codes 2 0, drop-drop 3 (3 * n) codes, f)

pub asked_ended : (codes : List ℕ) (steps n : ℕ) → steps ≤ n → asked_from codes steps n ≡ []
unfolding asked_in
asked_ended codes steps n h = let e : steps - n ≡ 0 = omega arith in rw e
