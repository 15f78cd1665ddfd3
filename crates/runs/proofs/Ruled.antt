-- Each of the five rules is a turn of the channel that it touches. Assumes nothing.
use Rattle.std.proofs.Common.{Option, Some, None}
use Rattle.std.proofs.lemmas.Bool.Decides.{nat_tests}
use Prim.Native.Nat.{ℕ, ◌<◌}
use mathlib.Core.Path.{◌≡◌, refl, ap, ◌∙◌}
use mathlib.Core.Bool.{Bool, false, ◌&&◌}
use mathlib.Core.Logic.{inl, inr}
use native.Mathlib.Omega.{arith}
use lib.Dec.{eqb, ltb, leb}
use borrow.Author.Tests.{eqb-true, ltb-true}
use Rattle.handshake.specs.Channel.{Held, quiet}
use Rattle.handshake.specs.Clauses.{Standing, GiverShows, ReceiverShows}
use Rattle.handshake.specs.Turn.{Turn}
use Rattle.handshake.proofs.Rules.{rests, fills, drops_slot, opens_slot, drops_token, makes_token}
use Rattle.ground.specs.Limits.{last_clock}
use Rattle.rules.specs.Rules.{agree, fill_by, drop_slot_by, open_slot_by, destination_shown_by, drop_token_by, make_token_by}
use Rattle.rules.specs.Side.{put_token}
use Rattle.ground.proofs.Onward.{source_next_lem, destination_next_lem}
use Rattle.ground.proofs.Tests.{both_hold, both_same}
use Rattle.ground.proofs.Choices.{chosen}
use Rattle.ground.specs.declared.clocks.DestinationClock.{DestinationClock}
use Rattle.rules.specs.declared.held.Slot.{Slot}
use Rattle.rules.specs.declared.held.Token.{Token}
use Rattle.rules.specs.declared.message.Message.{Message}
use Rattle.rules.specs.declared.rules.Ruled.{Ruled}
use Rattle.rules.specs.declared.side.Side.{Side}
use Rattle.runs.specs.Demand3.{waits_for}
use Rattle.runs.proofs.Seen.{slot_seen, token_seen, inward, outward, arrives_by, departs_by}

-- a token fits a slot that waits for it
abbrev pub fits : Option Token → Option Slot → Bool
fits None h = false
fits (Some t) h = waits_for h t

-- what rule 1 leaves does not fit
pub fill_leaves : (x : Side) (m : Option Token) (h : Option Slot) → x.slot ≡ h → fits m (fill_by x m h).side.slot ≡ false
fill_leaves x None h e = refl
fill_leaves x (Some t) None e = ap (fits (Some t)) e
fill_leaves x (Some t) (Some l) e =
    chosen (λ (r : Ruled). fits (Some t) r.side.slot ≡ false) (agree t l) _ _ (λ f. refl) (λ f. ap (fits (Some t)) e ∙ f)

pub misfit : (g : Option Token) (h : Option Slot) → fits g h ≡ false → (t l : Held ℕ) → token_seen g ≡ Some t → slot_seen h ≡ Some l → t.source ≡ l.source
    → t.destination ≡ l.destination → ⊥
misfit None h e t l p q s d = cc
misfit (Some k) None e t l p q s d = cc
misfit (Some k) (Some o) e t l p q s d =
    let ks : k.source.0 ≡ o.source.0 = cc in
    let kd : k.destination.0 ≡ o.destination.0 = cc in
    grind (arith, nat_tests)

-- at the receiver's end: source and token are the giver's
module _ (source : ℕ) (token : Option (Held ℕ)) where
  nothing_in : (x : Side) → Turn (inward x source token) (inward x source token) quiet
  nothing_in x = rests (inward x source token) (omega arith) (omega arith)

  pub fill_turns : (x : Side) (m : Option Token) (h : Option Slot) {clock : ℕ} → x.slot ≡ h → GiverShows (inward x source token) clock (token_seen m)
      → Turn (inward x source token) (inward (fill_by x m h).side source token) (arrives_by m (fill_by x m h).acted (fill_by x m h).quantity)
  fill_turns x None h e shows = nothing_in x
  fill_turns x (Some t) None e shows = nothing_in x
  fill_turns x (Some t) (Some l) e shows =
      chosen (λ (r : Ruled). Turn (inward x source token) (inward r.side source token) (arrives_by (Some t) r.acted r.quantity)) (agree t l) _ _
      (λ f. let a = both_same t.source.0 l.source.0 t.destination.0 l.destination.0 f in fills (inward x source token) shows _ _ refl (ap slot_seen e) a.0 a.1) (λ f. nothing_in x)

  pub drop_slot_turns : (x : Side) (m : Message) (h : Option Slot) → x.slot ≡ h → fits m.token h ≡ false
      → GiverShows (inward x source token) m.source.0 (token_seen m.token)
      → Turn (inward x source token) (inward (drop_slot_by x m h).side source token) quiet
  drop_slot_turns x m None e f shows = nothing_in x
  drop_slot_turns x m (Some l) e f shows =
      chosen (λ (r : Ruled). Turn (inward x source token) (inward r.side source token) quiet) (ltb l.source.0 m.source.0) _ _
      (λ g. drops_slot (inward x source token) shows _ (ap slot_seen e) (ltb-true _ _ g) (λ t p. misfit m.token (Some l) f t _ p refl))
      (λ g. nothing_in x)

  pub open_slot_turns : (x : Side) (m : Message) (q : ℕ) (h : Option Slot) → x.slot ≡ h → Standing (inward x source token)
      → GiverShows (inward x source token) m.source.0 (token_seen m.token)
      → Turn (inward x source token) (inward (open_slot_by x m q h).side source token) quiet
  open_slot_turns x m q (Some l) e stands shows = nothing_in x
  open_slot_turns x m q None e stands shows =
      chosen (λ (r : Ruled). Turn (inward x source token) (inward r.side source token) quiet) (leb 1 q && ltb x.destination.0 last_clock) _ _
      (λ f.
      let next = destination_next_lem x.destination (both_hold (leb 1 q) (ltb x.destination.0 last_clock) f).1 in
      opens_slot (inward x source token) shows stands _ (ap slot_seen e) refl refl (omega arith))
      (λ f. nothing_in x)

-- at the giver's end: destination and slot are the receiver's
module _ (destination : ℕ) (slot : Option (Held ℕ)) where
  nothing_out : (x : Side) → Turn (outward x destination slot) (outward x destination slot) quiet
  nothing_out x = rests (outward x destination slot) (omega arith) (omega arith)

  -- rule 4 is a turn where it is one whenever it acts
  by_clock : (x : Side) (t : Token) (shown : DestinationClock)
      → (t.destination.0 < shown.0 → Turn (outward x destination slot) (outward (put_token x None) destination slot) quiet)
      → Turn (outward x destination slot) (outward (drop_token_by x shown (Some t)).side destination slot) quiet
  by_clock x t shown goes =
      chosen (λ (r : Ruled). Turn (outward x destination slot) (outward r.side destination slot) quiet) (ltb t.destination.0 shown.0) _ _
      (λ g. goes (ltb-true _ _ g)) (λ g. nothing_out x)

  pub drop_token_turns : (x : Side) (m : Message) (h : Option Token) (l : Option Slot) → x.token ≡ h
      → ReceiverShows (outward x destination slot) m.destination.0 (slot_seen l)
      → Turn (outward x destination slot) (outward (drop_token_by x (destination_shown_by m l) h).side destination slot) quiet
  drop_token_turns x m None l e shows = nothing_out x
  drop_token_turns x m (Some t) None e shows =
      by_clock x t m.destination (λ h. drops_token (outward x destination slot) shows _ (ap token_seen e) (inl (refl, h)))
  drop_token_turns x m (Some t) (Some l) e shows =
      by_clock x t l.destination (λ h. drops_token (outward x destination slot) shows _ (ap token_seen e) (inr (_, refl, h)))

  pub make_token_turns : (x : Side) (h : Option Slot) {clock : ℕ} → Standing (outward x destination slot)
      → ReceiverShows (outward x destination slot) clock (slot_seen h)
      → Turn (outward x destination slot) (outward (make_token_by x h).side destination slot) (departs_by h (make_token_by x h).acted (make_token_by x h).quantity)
  make_token_turns x None stands shows = nothing_out x
  make_token_turns x (Some l) stands shows =
      chosen (λ (r : Ruled). Turn (outward x destination slot) (outward r.side destination slot) (departs_by (Some l) r.acted r.quantity))
      (eqb l.source.0 x.source.0 && ltb x.source.0 last_clock) _ _
      (λ f.
      let h = both_hold (eqb l.source.0 x.source.0) (ltb x.source.0 last_clock) f in
      let s = eqb-true _ _ h.0 in
      let next = source_next_lem x.source h.1 in
      makes_token (outward x destination slot) shows stands _ _ refl s (omega arith) refl refl)
      (λ f. nothing_out x)
