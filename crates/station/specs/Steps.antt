-- The entry points of one station: what each answers, under which conditions in which order, and
-- what it does.
use Rattle.std.specs.Prelude.{ℕ, ◌+◌, ◌-◌, Bool, not, ◌&&◌, List, [], ◌∷◌, ◌++◌, ltb, eqb, replicate}
use Rattle.rules.specs.declared.message.Message.{Message}
use Rattle.rules.specs.declared.report.Report.{Report}
use Rattle.rules.specs.declared.stock.Stock.{Stock}
use Rattle.rules.specs.declared.taking.Taken.{Taken}
use Rattle.ground.specs.Limits.{most_stations, most_intake, most_value}
use Rattle.ground.specs.Answers.{done, not_sound, not_below_count, same_station, bad_amount, intake_limit, no_record, value_limit, for_another, too_few}
use Rattle.rules.specs.Message.{no_message}
use Rattle.rules.specs.Report.{no_report}
use Rattle.ground.specs.Refusals.{Refusal, when, answer_of}
use Rattle.ground.specs.Choice.{if_done}
use Rattle.rules.specs.Stock.{amount_sound}
use Rattle.rules.specs.Rules.{fill}
use Rattle.rules.specs.Taking.{five_rules}
use Rattle.station.specs.declared.station.Station.{Station}
use Rattle.station.specs.declared.message.Shown.{Shown}
use Rattle.station.specs.declared.outcome.Outcome.{Outcome}
use Rattle.station.specs.Held.{no_slot, no_token, slot_for, token_for}
use Rattle.station.specs.Side.{side_for, put_side}
use Rattle.station.specs.Sound.{count_sound, station_sound, message_sound}
use Rattle.station.specs.Outcome.{answered}

-- a step done: its result, its report and the station after it
abbrev pub told : ℕ → Report → Station → Outcome
told result report s = record { answer = done; result = result; report = report; station = s }

-- Fresh station: every value, intake and clock 0, no slot and no token.
abbrev pub blank : ℕ → ℕ → Station
blank number count =
    record {
      number = number;
      count = count;
      value = 0;
      intake = 0;
      source = record { 0 = 0 };
      destination = record { 0 = 0 };
      slots = replicate most_stations no_slot;
      tokens = replicate most_stations no_token;
    }

abbrev pub fresh_refusals : ℕ → ℕ → List Refusal
fresh_refusals number count = when (not (count_sound count)) not_sound ∷ when (not (ltb number count)) not_below_count ∷ []

abbrev pub fresh_answer : ℕ → ℕ → ℕ
fresh_answer number count = answer_of (fresh_refusals number count)

-- a refused making hands back every number 0 and nothing held
unfoldable pub fresh_of : ℕ → ℕ → Outcome
fresh_of number count = answered (fresh_answer number count) (blank 0 0) (told 0 no_report (blank number count))

-- a station with another value and intake
abbrev pub put_stock : Station → ℕ → ℕ → Station
put_stock s value intake =
    record {
      number = s.number;
      count = s.count;
      value = value;
      intake = intake;
      source = s.source;
      destination = s.destination;
      slots = s.slots;
      tokens = s.tokens;
    }

-- what is told at a station whose stock is then that one
abbrev pub stock_outcome : Station → Stock → Outcome
stock_outcome s k = record { answer = k.answer; result = k.result; report = no_report; station = put_stock s k.value k.intake }

-- Add raises value and intake. Result: the new value.
abbrev pub add_refusals : Station → ℕ → List Refusal
add_refusals s amount =
    when (not (station_sound s)) not_sound
    ∷ when (not (amount_sound amount)) bad_amount
    ∷ when (ltb most_intake (s.intake + amount)) intake_limit
    ∷ when (ltb most_value (s.value + amount)) value_limit
    ∷ []

abbrev pub add_answer : Station → ℕ → ℕ
add_answer s amount = answer_of (add_refusals s amount)

unfoldable pub add_of : Station → ℕ → Outcome
add_of s amount =
    answered (add_answer s amount) s (told (s.value + amount) no_report (put_stock s (s.value + amount) (s.intake + amount)))

-- Draw takes the amount asked, all or none of it. Result: the amount.
abbrev pub draw_refusals : Station → ℕ → List Refusal
draw_refusals s amount =
    when (not (station_sound s)) not_sound
    ∷ when (not (amount_sound amount)) bad_amount
    ∷ when (ltb s.value amount) too_few
    ∷ []

abbrev pub draw_answer : Station → ℕ → ℕ
draw_answer s amount = answer_of (draw_refusals s amount)

unfoldable pub draw_of : Station → ℕ → Outcome
draw_of s amount = answered (draw_answer s amount) s (told amount no_report (put_stock s (s.value - amount) s.intake))

-- A message shows from, to, the sender's value and both its clocks, its slot and its token for the
-- receiver.
abbrev pub message_for : Station → ℕ → Message
message_for s to =
    record {
      from = s.number;
      to = to;
      value = s.value;
      source = s.source;
      destination = s.destination;
      slot = slot_for s to;
      token = token_for s to;
    }

abbrev pub show_refusals : Station → ℕ → List Refusal
show_refusals s to =
    when (not (station_sound s)) not_sound
    ∷ when (not (ltb to s.count)) not_below_count
    ∷ when (eqb to s.number) same_station
    ∷ []

abbrev pub show_answer : Station → ℕ → ℕ
show_answer s to = answer_of (show_refusals s to)

-- the answer, and the message where it is 0
abbrev pub showing : ℕ → Message → Shown
showing answer m = record { answer = answer; message = if_done answer m no_message }

unfoldable pub show_of : Station → ℕ → Shown
show_of s to = showing (show_answer s to) (message_for s to)

-- the from and the to of a message are below the count
abbrev pub ends_below : Station → Message → Bool
ends_below s m = ltb m.from s.count && ltb m.to s.count

-- what is looked at before the rules see the message
abbrev pub meet_refusals : Station → Message → List Refusal
meet_refusals s m =
    when (not (station_sound s)) not_sound
    ∷ when (not (message_sound m)) no_record
    ∷ when (not (ends_below s m)) not_below_count
    ∷ when (not (eqb m.to s.number)) for_another
    ∷ []

abbrev pub meet_answer : Station → Message → ℕ
meet_answer s m = answer_of (meet_refusals s m)

-- and what rule 1 would bring
abbrev pub fill_refusals : Station → Message → List Refusal
fill_refusals s m = when (ltb most_value (fill (side_for s m.from) m).side.value) value_limit ∷ []

-- Receiving: the five rules at the receiver's side for the sender. Result: the amount filled, or 0.
abbrev pub receive_refusals : Station → Message → List Refusal
receive_refusals s m = meet_refusals s m ++ fill_refusals s m

abbrev pub receive_answer : Station → Message → ℕ
receive_answer s m = answer_of (receive_refusals s m)

abbrev pub received : Station → Message → Taken → Outcome
received s m t = told t.result t.report (put_side s m.from t.side)

unfoldable pub receive_of : Station → Message → Outcome
receive_of s m = answered (receive_answer s m) s (received s m (five_rules (side_for s m.from) m))
