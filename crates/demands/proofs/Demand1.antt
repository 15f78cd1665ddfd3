-- Demand 1 holds: every refusal has result 0, an empty report, and leaves what was lent. Assumes
-- nothing.
use Rattle.std.proofs.Common.{Option, Some, None, Result, Ok, Err}
use Prim.Native.Nat.{ℕ, zero, suc}
use mathlib.Core.Path.{◌≡◌, refl, sym}
use mathlib.Core.Bool.{Bool, true, false, cond}
use mathlib.Core.List.{List}
use mathlib.Core.Logic.{◌≢◌}
use lib.ListN.{length}
use Rattle.rules.specs.declared.message.Message.{Message}
use Rattle.rules.specs.declared.report.Report.{Report}
use Rattle.rules.specs.declared.side.Side.{Side}
use Rattle.rules.specs.declared.stock.Stock.{Stock}
use Rattle.rules.specs.declared.taking.Taken.{Taken}
use Rattle.station.specs.declared.outcome.Outcome.{Outcome}
use Rattle.station.specs.declared.station.Station.{Station}
use Rattle.ground.specs.Answers.{done, not_sound, no_record}
use Rattle.ground.specs.Refusals.{answer_of}
use Rattle.ground.specs.Choice.{if_done}
use Rattle.ground.specs.Told.{told_with}
use Rattle.ground.proofs.Choices.{when_refused}
use Rattle.rules.specs.Report.{no_report}
use Rattle.rules.specs.Stock.{stocked, add_to_answer, added_to, draw_from_answer, drawn_from}
use Rattle.rules.specs.Taking.{five_rules, take_answer, refused_taking, taken_of}
use Rattle.station.specs.Outcome.{answered}
use Rattle.rules.specs.Message.{no_message}
use Rattle.station.specs.Steps.{fresh_answer, add_answer, draw_answer, show_answer, receive_answer, message_for, fresh_of, add_of, draw_of, show_of, receive_of}
use Rattle.record.specs.declared.reading.Reading.{Reading}
use Rattle.ground.specs.declared.told.Told.{Told}
use Rattle.record.specs.declared.faults.Fault.{Fault}
use Rattle.record.specs.Reading.{walked, reading_of, read_of}
use Rattle.record.specs.Dateless.{record_of}
use Rattle.record.specs.Writing.{Writes, write_answer}
use Rattle.record.specs.AtStation.{write_for_answer, receive_bytes_of}
use Rattle.quynhabet.specs.declared.told.ToldNumbers.{ToldNumbers}
use Rattle.quynhabet.specs.Exports.{Given, Gives, plain_told, told_of, outcome_by, refused_by, written_by, reading_by, check_of, fresh_by, add_by, draw_by, show_by, receive_by, read_by, write_by}
use Rattle.quynhabet.specs.Layout.{numbers_of, station_of, station_fits, message_numbers, message_of, message_fits}
use Rattle.steps.specs.declared.running.Ran.{Ran}
use Rattle.steps.specs.declared.asked.Step.{Step}
use Rattle.steps.specs.declared.asked.Step.TheVariants.{Add, Draw, Send, Deliver, Lose}
use Rattle.pool.specs.declared.places.Place.{Place}
use Rattle.table.specs.declared.stepped.Stepped.{Stepped}
use Rattle.table.specs.declared.table.Table.{Table}
use Rattle.table.specs.Sound.{table_sound}
use Rattle.table.specs.Fresh.{fresh_table_refusals, seats_to, fresh_table_of}
use Rattle.pool.specs.Lent.{send_in_answer, lose_in_answer}
use Rattle.steps.specs.Running.{ran_of, told_in_run}
use Rattle.table.specs.Table.{waiting_at}
use Rattle.table.specs.Stepped.{answered_step}
use Rattle.steps.specs.Steps.{deliver_step, step_refusals, step_done, step_of}
use Rattle.table.specs.Way.{sum_refusals, on_the_way, at_stations}
use Rattle.script.proofs.Refused.{answer_refused, put_lines_refused, start_refused}
use Rattle.demands.specs.Demand1.{no_station, no_table, RefusedSide, RefusedStock, RefusedAs, RefusedAsTable, RefusedRan, RefusedSum, Refused, RefusedNumbers, RefusedTold, Demand1}

-- a side and a stock: an answer that is not 0 makes a refusal of anything done
at_side : (n : ℕ) (x : Side) (d : Taken) → d.answer ≡ done → RefusedSide x (if_done n d (refused_taking n x))
at_side zero x d e f = absurd (f e)
at_side (suc n) x d e f = (refl, refl, refl)

at_stock_lem : (n value intake : ℕ) (d : Stock) → d.answer ≡ done → RefusedStock value intake (stocked n value intake d)
at_stock_lem zero value intake d e f = absurd (f e)
at_stock_lem (suc n) value intake d e f = (refl, refl, refl)

-- one station: an answer that is not 0 makes a refusal of any outcome
at_station_lem : (n : ℕ) (s : Station) (d : Outcome) → d.answer ≡ done → RefusedAs s (answered n s d)
at_station_lem zero s d e f = absurd (f e)
at_station_lem (suc n) s d e f = (refl, refl, refl)

no_message_lem : (n : ℕ) (m : Message) → n ≢ done → if_done n m no_message ≡ no_message
no_message_lem n m f = sym (when_refused n m no_message f)

-- a record
no_record_lem : (w : Result (Message × ℕ) Fault) → let r = reading_of w in Refused r.answer r.result no_message r.message
no_record_lem (Ok read) f = absurd (f refl)
no_record_lem (Err e) f = (refl, refl)

writes : (answer : ℕ) (bytes before : List ℕ) (r : Told) (after : List ℕ) → Writes answer bytes before r after → Refused r.answer r.result before after
writes zero bytes before r after w f = absurd (f (rw w.told))
writes (suc n) bytes before r after w f = (rw w.told, w.buffer)

-- numbers: what is refused, of what an export gives, is refused of what it promises
abbrev RefusedGiven : List ℕ → Given → Type 0
RefusedGiven before g = RefusedNumbers before g.told g.lent

gives_refused : (g : Given) (before : List ℕ) → RefusedGiven before g → (r : ToldNumbers) (after : List ℕ) → Gives g r after → RefusedNumbers before r after
gives_refused g before h r after p = rw (p.told, p.lent) h

-- what is refused is told with result 0 and an empty report, and what was lent is kept
told_refused : (n : ℕ) {result : ℕ} {report : Report} → result ≡ 0 → report ≡ no_report → told_of n result report ≡ plain_told n 0
told_refused n e f = rw (e, f)

in_numbers : (s : Station) (o : Outcome) (before : List ℕ) → RefusedAs s o → RefusedGiven before (outcome_by o before)
in_numbers s o before h f = let r = h f in (told_refused o.answer r.0 r.1, sym (when_refused o.answer (numbers_of o.station) before f))

on_numbers : (fits : Bool) (s : Station) (o : Outcome) (before : List ℕ) → RefusedAs s o
    → RefusedGiven before (cond fits (outcome_by o before) (refused_by not_sound before))
on_numbers true s o before h f = in_numbers s o before h f
on_numbers false s o before h f = (refl, refl)

into_bytes : (fits : Bool) (unfit answer : ℕ) (bytes before : List ℕ) → RefusedGiven before (cond fits (written_by answer bytes before) (refused_by unfit before))
into_bytes true unfit zero bytes before f = absurd (f refl)
into_bytes true unfit (suc n) bytes before f = (refl, refl)
into_bytes false unfit answer bytes before f = (refl, refl)

from_bytes : (r : Reading) (before : List ℕ) → Refused r.answer r.result no_message r.message → RefusedGiven before (reading_by r before)
from_bytes r before h f = (told_refused r.answer (h f).0 refl, sym (when_refused r.answer (message_numbers r.message) before f))

-- a table: every step that is done answers 0
at_table : (n : ℕ) (t : Table) (d : Stepped) → d.answer ≡ done → RefusedAsTable t (answered_step n t d)
at_table zero t d e f = absurd (f e)
at_table (suc n) t d e f = (refl, refl, refl)

delivers : (t : Table) (w : Option Message) → (deliver_step t w).answer ≡ done
delivers t None = refl
delivers t (Some m) = refl

does : (t : Table) (step : Step) → (step_done t step).answer ≡ done
does t (Add k amount) = refl
does t (Draw k amount) = refl
does t (Send from to) = refl
does t (Deliver p) = delivers t (waiting_at t p)
does t (Lose p) = refl

steps : (t : Table) (step : Step) → RefusedAsTable t (step_of t step)
unfolding step_of
steps t step = at_table (answer_of (step_refusals t step)) t (step_done t step) (does t step)

makes : (count : ℕ) → RefusedAsTable no_table (fresh_table_of count)
unfolding fresh_table_of seats_to
makes count = at_table (answer_of (fresh_table_refusals count)) no_table _ refl

no_run : (sound : Bool) (t : Table) (d : Ran) (before later : List ℕ) → d.answer ≡ done
    → RefusedRan t before (cond sound d (record { answer = not_sound; result = 0; table = t })) (cond sound later before)
no_run true t d before later e f = absurd (f e)
no_run false t d before later e f = (refl, refl, refl)

no_sum : (n sum : ℕ) → RefusedSum (told_with n sum)
no_sum n sum f = sym (when_refused n sum 0 f)

-- a lent pool
in_pool : (n result : ℕ) (pool changed : List Place) → let r = told_with n result in Refused r.answer r.result pool (if_done n changed pool)
in_pool n result pool changed f = (sym (when_refused n result 0 f), sym (when_refused n changed pool f))

checked : (station : List ℕ) → RefusedTold (check_of station)
unfolding check_of
checked station f = refl

pub demand1 : Demand1
unfolding five_rules taken_of added_to drawn_from fresh_of add_of draw_of receive_of receive_bytes_of show_of read_of ran_of told_in_run seats_to fresh_by add_by draw_by show_by receive_by read_by write_by
demand1 =
    record {
      rules-take = λ x m. at_side (take_answer x m) x _ refl;
      rules-add_to = λ value intake amount. at_stock_lem (add_to_answer value intake amount) value intake _ refl;
      rules-draw_from = λ value intake amount. at_stock_lem (draw_from_answer value intake amount) value intake _ refl;
      station-fresh = λ number count. at_station_lem (fresh_answer number count) no_station _ refl;
      station-add = λ s amount. at_station_lem (add_answer s amount) s _ refl;
      station-draw = λ s amount. at_station_lem (draw_answer s amount) s _ refl;
      station-message_for = λ s to. no_message_lem (show_answer s to) (message_for s to);
      station-receive = λ s m. at_station_lem (receive_answer s m) s _ refl;
      record-read = λ bytes. no_record_lem (walked bytes);
      record-write = λ m buffer. writes _ _ buffer;
      record-write_message = λ s to buffer. writes _ _ buffer;
      record-receive_bytes = λ s bytes. at_station_lem (receive_answer s (read_of bytes).message) s _ refl;
      quynhabet-qb_station_fresh =
          λ number count station.
          gives_refused _ station
          (in_numbers no_station (fresh_of number count) station (at_station_lem (fresh_answer number count) no_station _ refl));
      quynhabet-qb_station_check = λ station. checked station;
      quynhabet-qb_station_add =
          λ station amount.
          let s = station_of station in
          gives_refused _ station (on_numbers (station_fits station) s (add_of s amount) station (at_station_lem (add_answer s amount) s _ refl));
      quynhabet-qb_station_draw =
          λ station amount.
          let s = station_of station in
          gives_refused _ station (on_numbers (station_fits station) s (draw_of s amount) station (at_station_lem (draw_answer s amount) s _ refl));
      quynhabet-qb_station_write =
          λ station to out.
          let s = station_of station in
          gives_refused _ out (into_bytes (station_fits station) not_sound (write_for_answer s to (length out)) (record_of (message_for s to)) out);
      quynhabet-qb_station_receive =
          λ station bytes.
          let s = station_of station in
          gives_refused _ station
          (on_numbers (station_fits station) s (receive_bytes_of s bytes) station (at_station_lem (receive_answer s (read_of bytes).message) s _ refl));
      quynhabet-qb_record_read = λ bytes message. gives_refused _ message (from_bytes (read_of bytes) message (no_record_lem (walked bytes)));
      quynhabet-qb_record_write =
          λ message out.
          let m = message_of message in
          gives_refused _ out (into_bytes (message_fits message) no_record (write_answer m (length out)) (record_of m) out);
      table-fresh_table = makes;
      steps-step = steps;
      steps-run = λ t codes told r told' p. rw (p.ran, p.lent) (no_run (table_sound t) t _ told _ refl);
      table-on_the_way = λ t. no_sum (answer_of (sum_refusals t)) (on_the_way t);
      table-at_stations = λ t. no_sum (answer_of (sum_refusals t)) (at_stations t);
      pool-send_in = λ pool m r after e. rw (e.0, e.1) (in_pool (send_in_answer pool) _ pool _);
      pool-lose_in = λ pool p r after e. rw (e.0, e.1) (in_pool (lose_in_answer pool p) _ pool _);
      pool-send_value = λ pool m. in_pool (send_in_answer pool) _ pool _;
      pool-lose_value = λ pool p. in_pool (lose_in_answer pool p) _ pool _;
      script-start = start_refused;
      script-put_answer = λ answer out r out' p. answer_refused answer out p;
      script-put_lines = λ script run out r out' p. put_lines_refused script run out p;
    }
