-- What was read is told whole by its numbers, read off by their places. Assumes nothing.
use Prim.Native.Nat.{ℕ, suc}
use mathlib.Core.Path.{◌≡◌, refl, ap, ◌∙◌}
use mathlib.Core.List.{List, [], ◌∷◌, ◌++◌}
use mathlib.Core.Bool.{Bool, true, false}
use native.Mathlib.Omega.{arith}
use Rattle.record.specs.Fields.{Body, missing, body, Field, body_numbers, nth, body_at}
use Rattle.record.proofs.Passed.{Many, Passes, Passed}

-- the numbers of a body one by one
abbrev pub spelled : List ℕ → List ℕ → ℕ → List ℕ
spelled [] numbers j = []
spelled (size ∷ sizes) numbers j = nth numbers j ∷ spelled sizes numbers (suc j)

abbrev pub remade : List ℕ → Body → Body
remade sizes missing = missing
remade sizes (body numbers) = body (spelled sizes numbers 0)

abbrev pub respelled : Bool → List ℕ → Body → Body
respelled true sizes b = body (spelled sizes (body_numbers b) 0)
respelled false sizes b = remade sizes b

abbrev pub again : List Field → List Body → ℕ → List Body
again [] bodies k = []
again (f ∷ fs) bodies k = respelled f.must f.sizes (body_at bodies k) ∷ again fs bodies (suc k)

shifted : (sizes : List ℕ) (x : ℕ) (numbers : List ℕ) (j : ℕ) → spelled sizes numbers j ≡ spelled sizes (x ∷ numbers) (suc j)
shifted [] x numbers j = refl
shifted (size ∷ sizes) x numbers j = ap (λ (l : List ℕ). nth numbers j ∷ l) (shifted sizes x numbers (suc j))

filled : (sizes numbers : List ℕ) → Many sizes numbers → numbers ≡ spelled sizes numbers 0
filled [] [] f = refl
filled [] (x ∷ numbers) f = absurd f
filled (size ∷ sizes) [] f = absurd f
filled (size ∷ sizes) (x ∷ numbers) f = ap (λ (l : List ℕ). x ∷ l) (filled sizes numbers f ∙ shifted sizes x numbers 0)

one_again : (f : Field) (before : List Body) (b : Body) (must : Bool) → f.must ≡ must → Passes f before b → b ≡ respelled must f.sizes b
one_again f before missing true e m = let z : ◌≡◌ {A = ℕ} 0 1 = cc in absurd (omega arith)
one_again f before missing false e m = refl
one_again f before (body numbers) true e m = ap body (filled f.sizes numbers m.0)
one_again f before (body numbers) false e m = ap body (filled f.sizes numbers m.0)

moved : (fs : List Field) (b : Body) (bodies : List Body) (k : ℕ) → again fs bodies k ≡ again fs (b ∷ bodies) (suc k)
moved [] b bodies k = refl
moved (f ∷ fs) b bodies k = ap (λ (l : List Body). respelled f.must f.sizes (body_at bodies k) ∷ l) (moved fs b bodies (suc k))

pub same_again : (fs : List Field) (before bodies : List Body) → Passed fs before bodies → bodies ≡ again fs bodies 0
same_again [] before [] c = refl
same_again [] before (b ∷ bodies) c = absurd c
same_again (f ∷ fs) before [] c = absurd c
same_again (f ∷ fs) before (b ∷ bodies) c =
    let first = one_again f before b f.must refl c.0 in
    let rest = same_again fs (before ++ (b ∷ [])) bodies c.1 ∙ moved fs b bodies 0 in
    ap (λ (x : Body). x ∷ bodies) first ∙ ap (λ (l : List Body). respelled f.must f.sizes b ∷ l) rest
