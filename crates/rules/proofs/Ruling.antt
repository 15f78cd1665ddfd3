-- What each rule comes to, by what is held and shown and by its test. Assumes nothing.
use Rattle.std.proofs.Common.{Option, Some, None}
use Prim.Native.Nat.{ℕ, ◌+◌, min}
use mathlib.Core.Path.{◌≡◌}
use mathlib.Core.Bool.{true, false, ◌&&◌}
use lib.Dec.{eqb, ltb, leb}
use Rattle.ground.specs.declared.clocks.DestinationClock.{DestinationClock}
use Rattle.rules.specs.declared.held.Slot.{Slot}
use Rattle.rules.specs.declared.held.Token.{Token}
use Rattle.rules.specs.declared.message.Message.{Message}
use Rattle.rules.specs.declared.side.Side.{Side}
use Rattle.ground.specs.Limits.{last_clock}
use Rattle.ground.specs.Clocks.{destination_above, destination_next}
use Rattle.rules.specs.Side.{put_value, put_destination, put_slot, put_token}
use Rattle.rules.specs.Rules.{acts, rests, agree, fill_by, drop_slot_by, open_slot_by, destination_shown_by, drop_token_by, give, make_token_by}

-- what is held or shown is a variable of its own, so that putting its case for it leaves the side
-- alone
module _ (x : Side) where
  pub fill_no_token : {g : Option Token} (h : Option Slot) → g ≡ None → rests x ≡ fill_by x g h
  fill_no_token h eg = rw eg

  pub fill_no_slot : {g : Option Token} {h : Option Slot} {t : Token} → g ≡ Some t → h ≡ None → rests x ≡ fill_by x g h
  fill_no_slot eg eh = rw (eg, eh)

  pub fill_other : {g : Option Token} {h : Option Slot} {t : Token} {l : Slot} → g ≡ Some t → h ≡ Some l → agree t l ≡ false → rests x ≡ fill_by x g h
  fill_other eg eh e = rw (eg, eh, e)

  pub fill_acts : {g : Option Token} {h : Option Slot} {t : Token} {l : Slot} → g ≡ Some t → h ≡ Some l → agree t l ≡ true
      → acts t.quantity (put_slot (put_value x (x.value + t.quantity)) None) ≡ fill_by x g h
  fill_acts eg eh e = rw (eg, eh, e)

  pub make_no_slot : {h : Option Slot} → h ≡ None → rests x ≡ make_token_by x h
  make_no_slot eh = rw eh

  pub make_other : {h : Option Slot} {l : Slot} → h ≡ Some l → (eqb l.source.0 x.source.0 && ltb x.source.0 last_clock) ≡ false
      → rests x ≡ make_token_by x h
  make_other eh e = rw (eh, e)

  pub make_acts : {h : Option Slot} {l : Slot} {q : ℕ} → h ≡ Some l → (eqb l.source.0 x.source.0 && ltb x.source.0 last_clock) ≡ true
      → q ≡ min x.value l.quantity → acts q (give x l q) ≡ make_token_by x h
  make_acts eh e f = rw (f, eh, e)

  pub drop_no_token : (shown : DestinationClock) {g : Option Token} → g ≡ None → rests x ≡ drop_token_by x shown g
  drop_no_token shown eg = rw eg

  pub drop_other_token : (shown : DestinationClock) {g : Option Token} {t : Token} → g ≡ Some t → destination_above shown t.destination ≡ false
      → rests x ≡ drop_token_by x shown g
  drop_other_token shown eg e = rw (eg, e)

  pub drop_token_acts : (shown : DestinationClock) {g : Option Token} {t : Token} → g ≡ Some t → destination_above shown t.destination ≡ true
      → acts 0 (put_token x None) ≡ drop_token_by x shown g
  drop_token_acts shown eg e = rw (eg, e)

module _ (x : Side) (m : Message) where
  pub drop_no_slot : {h : Option Slot} → h ≡ None → rests x ≡ drop_slot_by x m h
  drop_no_slot eh = rw eh

  pub drop_other_slot : {h : Option Slot} {l : Slot} → h ≡ Some l → ltb l.source.0 m.source.0 ≡ false → rests x ≡ drop_slot_by x m h
  drop_other_slot eh e = rw (eh, e)

  pub drop_slot_acts : {h : Option Slot} {l : Slot} → h ≡ Some l → ltb l.source.0 m.source.0 ≡ true → acts 0 (put_slot x None) ≡ drop_slot_by x m h
  drop_slot_acts eh e = rw (eh, e)

  pub open_one_slot : (q : ℕ) {h : Option Slot} {l : Slot} → h ≡ Some l → rests x ≡ open_slot_by x m q h
  open_one_slot q eh = rw eh

  pub open_other : (q : ℕ) {h : Option Slot} → h ≡ None → (leb 1 q && ltb x.destination.0 last_clock) ≡ false → rests x ≡ open_slot_by x m q h
  open_other q eh e = rw (eh, e)

  pub open_acts : (q : ℕ) {h : Option Slot} → h ≡ None → (leb 1 q && ltb x.destination.0 last_clock) ≡ true
      → acts q
      (put_destination (put_slot x (Some (record { source = m.source; destination = x.destination; quantity = q }))) (destination_next x.destination))
      ≡ open_slot_by x m q h
  open_acts q eh e = rw (eh, e)

-- what a message shows of its sender's slots, by whether it has one
module _ (m : Message) (clock : DestinationClock) where
  pub spent_by_clock : {h : Option Slot} → h ≡ None → destination_above m.destination clock ≡ destination_above (destination_shown_by m h) clock
  spent_by_clock eh = rw eh

  pub spent_by_slot : {h : Option Slot} {l : Slot} → h ≡ Some l → destination_above l.destination clock ≡ destination_above (destination_shown_by m h) clock
  spent_by_slot eh = rw eh
