-- A web with another end at one station: what its channels are, and that a turn of one of them is a
-- move of the web. Assumes nothing.
use Prim.Native.Nat.{ℕ}
use mathlib.Core.Path.{◌≡◌, refl}
use mathlib.Core.Bool.{◌&&◌}
use native.Mathlib.Omega.{arith}
use lib.Dec.{eqb}
use borrow.Author.Tests.{eq-eqb, ne_eqb, eqb-true}
use Rattle.handshake.specs.Channel.{Channel, Event}
use Rattle.handshake.specs.Turn.{Turn}
use Rattle.handshake.specs.Web.{Web, Moves, End, with_end}
use Rattle.handshake.proofs.Rules.{rests}
use Rattle.ground.proofs.Tests.{both_same, not_both_same}
use Rattle.ground.proofs.Choices.{choice_same, choice_rises}

module _ {P Q : Type 0} (W : Web P Q) (i j : ℕ) where
  -- the channels that reach the end and leave it
  abbrev pub into : End P Q → Channel P Q
  into x = record { source = (W j i).source; destination = x.destination; token = (W j i).token; slot = x.slot }

  abbrev pub out_of : End P Q → Channel P Q
  out_of x = record { source = x.source; destination = (W i j).destination; token = x.token; slot = (W i j).slot }

  pub end_in : (x : End P Q) → (j ≡ i → ⊥) → with_end W i j x j i ≡ into x
  end_in x n = rw (ne_eqb j i n, eq-eqb i i refl, eq-eqb j j refl)

  pub end_out : (x : End P Q) → (j ≡ i → ⊥) → with_end W i j x i j ≡ out_of x
  end_out x n = rw (ne_eqb j i n, eq-eqb i i refl, eq-eqb j j refl)

  -- the end that is already there changes nothing
  pub end_same : (x : End P Q) → ((r : ℕ) → x.source ≡ (W i r).source) → ((g : ℕ) → x.destination ≡ (W g i).destination)
      → x.token ≡ (W i j).token → x.slot ≡ (W j i).slot → (g r : ℕ) → with_end W i j x g r ≡ W g r
  end_same x source destination token slot g r =
      rw (
        choice_same (eqb g i) x.source (W g r).source (λ p. rw (eqb-true g i p) (source r)),
        choice_same (eqb r i) x.destination (W g r).destination (λ p. rw (eqb-true r i p) (destination g)),
        choice_same (eqb g i && eqb r j) x.token (W g r).token (λ p. let e = both_same g i r j p in rw (e.0, e.1) token),
        choice_same (eqb r i && eqb g j) x.slot (W g r).slot (λ p. let e = both_same r i g j p in rw (e.0, e.1) slot),
      )

  module _ (x x' : End P Q) (apart : j ≡ i → ⊥) {e : Event P} where
    -- the receiver's rules: its source clock and its token stay
    pub takes : x'.source ≡ x.source → x'.token ≡ x.token → Turn (into x) (into x') e → Moves (with_end W i j x) (with_end W i j x') j i e
    takes s t z = record {
      here = rw (end_in x apart, end_in x' apart) z;
      elsewhere = λ a b n.
          rw (s, t, not_both_same b i a j (λ p q. n q p)) (rests _ (omega arith) (choice_rises (eqb b i) (W a b).destination z.destination_rises));
    }

    -- the giver's rules: its destination clock and its slot stay
    pub gives : x'.destination ≡ x.destination → x'.slot ≡ x.slot → Turn (out_of x) (out_of x') e → Moves (with_end W i j x) (with_end W i j x') i j e
    gives d l z = record {
      here = rw (end_out x apart, end_out x' apart) z;
      elsewhere = λ a b n.
          rw (d, l, not_both_same a i b j n) (rests _ (choice_rises (eqb a i) (W a b).source z.source_rises) (omega arith));
    }
