-- Taking a message by the five rules is a passage, with the entries that its report tells. Assumes
-- nothing.
use Rattle.std.proofs.Common.{Option, Some, None}
use Prim.Native.Nat.{ℕ, ◌<◌}
use mathlib.Core.Path.{◌≡◌, refl}
use mathlib.Core.Bool.{Bool, true, false}
use mathlib.Core.List.{List, [], ◌++◌}
use Rattle.rules.specs.declared.held.Token.{Token}
use Rattle.rules.specs.declared.held.Slot.{Slot}
use Rattle.handshake.specs.Channel.{Channel}
use Rattle.handshake.specs.Clauses.{Standing, GiverShows, ReceiverShows}
use Rattle.handshake.specs.History.{Entry, entries}
use Rattle.handshake.specs.Web.{Web, Letter, with_end}
use Rattle.handshake.proofs.Ends.{end_in, end_out, takes, gives}
use Rattle.handshake.proofs.Passages.{Passage, next, quietly}
use Rattle.rules.specs.Half.{half_above}
use Rattle.rules.specs.Rules.{fill, drop_slot, open_slot, drop_token, make_token}
use Rattle.rules.specs.Taking.{five_rules}
use Rattle.rules.specs.declared.message.Message.{Message}
use Rattle.rules.specs.declared.side.Side.{Side}
use Rattle.runs.specs.Runs.{arrival_by, departure_by, entries_by}
use Rattle.runs.specs.Demand3.{amount}
use Rattle.runs.proofs.Seen.{slot_seen, token_seen, end_of, letter_of, inward, outward, arrives_by, departs_by}
use Rattle.runs.proofs.Ruled.{fits, fill_turns, fill_leaves, drop_slot_turns, open_slot_turns, drop_token_turns, make_token_turns}
use Rattle.runs.proofs.LeftAlone.{filled, slot_dropped_lem, slot_opened, token_dropped, token_made_lem}

-- what is reported and what the channel sees are the same entries
arrival_entries : (m : Message) (h : Option Token) (acted : Bool) (q : ℕ) → entries m.from m.to (arrives_by h acted q) ≡ arrival_by m h acted q
arrival_entries m (Some t) true q = refl
arrival_entries m (Some t) false q = refl
arrival_entries m None acted q = refl

departure_entries : (m : Message) (h : Option Slot) (acted : Bool) (q : ℕ) → entries m.to m.from (departs_by h acted q) ≡ departure_by m h acted q
departure_entries m (Some l) true q = refl
departure_entries m (Some l) false q = refl
departure_entries m None acted q = refl

module _ (start W : Web ℕ ℕ) (Waits : Letter ℕ ℕ → Type 0) (H : List (Entry ℕ)) (n : ℕ) (m : Message) (waits : Waits (letter_of m)) (apart : m.from ≡ m.to → ⊥) (from : m.from < n) (to : m.to < n) where
  -- the receiver has side x for the sender, and the entries K were made
  abbrev pub Stage : Side → List (Entry ℕ) → Type 0
  Stage x K = Passage amount n start (with_end W m.to m.from (end_of x)) Waits H K

  abbrev theirs : Channel ℕ ℕ
  theirs = W m.from m.to

  abbrev ours : Channel ℕ ℕ
  ours = W m.to m.from

  module _ (x : Side) {K : List (Entry ℕ)} (z : Stage x K) where
    in_shows : GiverShows (inward x theirs.source theirs.token) m.source.0 (token_seen m.token)
    in_shows = rw (end_in W m.to m.from (end_of x) apart) at (z.holds.shown (letter_of m) waits).gives

    in_stands : Standing (inward x theirs.source theirs.token)
    in_stands = rw (end_in W m.to m.from (end_of x) apart) at (z.holds.standing m.from m.to)

    out_shows : ReceiverShows (outward x ours.destination ours.slot) m.destination.0 (slot_seen m.slot)
    out_shows = rw (end_out W m.to m.from (end_of x) apart) at (z.holds.shown (letter_of m) waits).asks

    out_stands : Standing (outward x ours.destination ours.slot)
    out_stands = rw (end_out W m.to m.from (end_of x) apart) at (z.holds.standing m.to m.from)

    -- rule by rule
    pub fill_stage : Stage (fill x m).side (K ++ arrival_by m m.token (fill x m).acted (fill x m).quantity)
    fill_stage =
        let a = (filled x m).0 in
        let turn = fill_turns theirs.source theirs.token x m.token x.slot refl in_shows in
        rw (arrival_entries m m.token (fill x m).acted (fill x m).quantity) at
        (next z (takes W m.to m.from (end_of x) (end_of (fill x m).side) apart (cc) (cc) turn) from to)

    drop_slot_stage : fits m.token x.slot ≡ false → Stage (drop_slot x m).side K
    drop_slot_stage f =
        let a = (slot_dropped_lem x m).0 in
        let turn = drop_slot_turns theirs.source theirs.token x m x.slot refl f in_shows in
        quietly z (takes W m.to m.from (end_of x) (end_of (drop_slot x m).side) apart (cc) (cc) turn) from to

    open_slot_stage : Stage (open_slot x m).side K
    open_slot_stage =
        let a = (slot_opened x m).0 in
        let turn = open_slot_turns theirs.source theirs.token x m (half_above m.value x.value) x.slot refl in_stands in_shows in
        quietly z (takes W m.to m.from (end_of x) (end_of (open_slot x m).side) apart (cc) (cc) turn) from to

    drop_token_stage : Stage (drop_token x m).side K
    drop_token_stage =
        let a = (token_dropped x m).0 in
        let turn = drop_token_turns ours.destination ours.slot x m x.token m.slot refl out_shows in
        quietly z (gives W m.to m.from (end_of x) (end_of (drop_token x m).side) apart (cc) (cc) turn) to from

    make_token_stage : Stage (make_token x m).side (K ++ departure_by m m.slot (make_token x m).acted (make_token x m).quantity)
    make_token_stage =
        let a = (token_made_lem x m).0 in
        let turn = make_token_turns ours.destination ours.slot x m.slot out_stands out_shows in
        rw (departure_entries m m.slot (make_token x m).acted (make_token x m).quantity) at
        (next z (gives W m.to m.from (end_of x) (end_of (make_token x m).side) apart (cc) (cc) turn) to from)

  -- all five
  pub taken_stage : (x : Side) → Stage x [] → let r = five_rules x m in Stage r.side (entries_by (Some m) r.result r.report)
  unfolding five_rules
  taken_stage x z =
      let one = (fill x m).side in
      let two = (drop_slot one m).side in
      let three = (open_slot two m).side in
      let four = (drop_token three m).side in
      make_token_stage four (drop_token_stage three (open_slot_stage two (drop_slot_stage one (fill_stage x z) (fill_leaves x m.token x.slot refl))))
