-- The lists of refusals have the printed orders, whatever they are asked of; and each answer is 0
-- or a number of its list. Assumes nothing.
use Rattle.std.proofs.Common.{Some}
use Prim.Native.Nat.{ℕ, ◌<◌}
use mathlib.Core.Path.{◌≡◌, refl, ap, sym, ◌∙◌}
use mathlib.Core.Bool.{Bool, true, false, cond, not}
use mathlib.Core.List.Memᴰ
use mathlib.Core.List.{List, [], ◌∷◌, map}
use lib.ListN.{length}
use Rattle.rules.specs.declared.message.Message.{Message}
use Rattle.rules.specs.declared.side.Side.{Side}
use Rattle.ground.specs.Answers.{not_sound, no_record}
use Rattle.ground.specs.Limits.{most_stations}
use Rattle.ground.specs.Refusals.{Refusal, answer_of, numbers_in}
use Rattle.rules.specs.Stock.{add_to_refusals, draw_from_refusals}
use Rattle.rules.specs.Taking.{take_refusals}
use Rattle.ground.proofs.Refusing.{answer_among}
use Rattle.ground.proofs.Choices.{answer_told}
use Rattle.rules.proofs.Refusing.{add_to_tells, draw_from_tells, take_tells}
use Rattle.station.specs.declared.station.Station.{Station}
use Rattle.station.specs.Steps.{fresh_refusals, add_refusals, draw_refusals, show_refusals, receive_refusals, receive_of}
use Rattle.station.proofs.Answering.{fresh_tells, add_tells, draw_tells, show_tells, receive_tells}
use Rattle.ground.specs.declared.told.Told.{Told}
use Rattle.record.specs.Reading.{read_refusals}
use Rattle.record.specs.Writing.{Writes, write_refusals}
use Rattle.record.specs.AtStation.{write_for_refusals, receive_bytes_refusals}
use Rattle.record.proofs.Receiving.{read_tells, receive_bytes_tells}
use Rattle.quynhabet.specs.declared.told.ToldNumbers.{ToldNumbers}
use Rattle.quynhabet.specs.Exports.{Given, Gives, refused_by, check_refusals, check_of, fresh_by, add_by, draw_by, show_by, receive_by, read_by, write_by}
use Rattle.quynhabet.specs.Layout.{station_of, station_fits, message_of, message_fits}
use Rattle.pool.specs.declared.places.Place.{Place}
use Rattle.steps.specs.declared.running.Ran.{Ran}
use Rattle.steps.specs.declared.asked.Step.{Step}
use Rattle.steps.specs.declared.asked.Step.TheVariants.{Add, Draw, Send, Deliver, Lose}
use Rattle.table.specs.declared.stepped.Stepped.{Stepped}
use Rattle.table.specs.declared.table.Table.{Table}
use Rattle.table.specs.Fresh.{fresh_table_refusals, fresh_table_of}
use Rattle.pool.specs.Lent.{send_in_refusals, lose_in_refusals}
use Rattle.steps.specs.Running.{ran_of}
use Rattle.table.specs.Sound.{table_sound}
use Rattle.steps.specs.Steps.{step_refusals, step_of}
use Rattle.pool.specs.Pool.{most_places}
use Rattle.table.specs.Table.{station_at, waiting_at}
use Rattle.table.specs.Way.{sum_refusals}
use Rattle.steps.proofs.Ran.{step_answers}
use Rattle.steps.proofs.Same.{deliver_same}
use Rattle.script.specs.declared.starting.Run.{Run}
use Rattle.script.specs.Putting.{put_lines_refusals}
use Rattle.script.specs.Starting.{put_answer_refusals, start_refusals}
use Rattle.script.proofs.Answers.{start_tells, put_lines_tells}
use Rattle.demands.specs.Orders.{Order, orders, OneOf, Answers}

pub orders_printed : (s : Station) (t : Table) (m : Message) (x : Side) (pool : List Place) (run : Run) (bytes : List ℕ) (i j k : ℕ)
    → map (λ (o : Order). o.found) (orders s t m x pool run bytes i j k) ≡ map (λ (o : Order). o.printed) (orders s t m x pool run bytes i j k)
orders_printed s t m x pool run bytes i j k = refl

-- an answer that is found in a list is 0 or one of its numbers
by_list : (rs : List Refusal) {answer : ℕ} → answer ≡ answer_of rs → OneOf answer (numbers_in rs)
by_list rs e = rw e (answer_among rs)

check_tells : (station : List ℕ) → OneOf (check_of station).answer (1 ∷ [])
unfolding check_of
check_tells station = by_list (check_refusals station) refl

by_step : (t : Table) (step : Step) → OneOf (step_of t step).answer (numbers_in (step_refusals t step))
by_step t step = by_list (step_refusals t step) (step_answers t step)

-- what is told is the answer that was found
fresh_table_tells : (count : ℕ) → (fresh_table_of count).answer ≡ answer_of (fresh_table_refusals count)
unfolding fresh_table_of
fresh_table_tells count = answer_told (λ (x : Stepped). x.answer) (answer_of (fresh_table_refusals count)) _ _ refl refl

write_tells : (n : ℕ) (bytes before : List ℕ) (r : Told) (after : List ℕ) → Writes n bytes before r after → r.answer ≡ n
write_tells n bytes before r after w = ap (λ (r : Told). r.answer) w.told

-- a delivery on any table
pub delivery_answers : (t : Table) (p : ℕ) → OneOf (step_of t (Deliver p)).answer (1 ∷ 7 ∷ 8 ∷ 10 ∷ [])
delivery_answers t p = by_step t (Deliver p)

-- so no station of a sound table answers 9, 2 or 11 to a message that waits for it
pub waiting_answers : (t : Table) → table_sound t ≡ true → length t.stations ≡ most_stations → (p : ℕ) (m : Message) → p < most_places → waiting_at t p ≡ Some m
    → OneOf (receive_of (station_at t m.to) m).answer (1 ∷ 7 ∷ 8 ∷ 10 ∷ [])
waiting_answers t sound full p m h e = rw (sym (deliver_same t sound full p m h e).answer) (delivery_answers t p)

-- a run of steps is refused as a sum is
run_by : (sound : Bool) (d e : Ran) → d.answer ≡ 0 → e.answer ≡ 1 → (cond sound d e).answer ≡ cond (not sound) not_sound 0
run_by true d e p q = p
run_by false d e p q = q

run_tells : (t : Table) (codes told : List ℕ) → (ran_of t codes told).answer ≡ answer_of (sum_refusals t)
unfolding ran_of
run_tells t codes told = run_by (table_sound t) _ _ refl refl

-- numbers that are no station and no message have the first answer of their list
fits_or : (fits : Bool) (g : Given) (n : ℕ) (before : List ℕ) {ns : List ℕ} → OneOf g.told.answer (n ∷ ns)
    → OneOf (cond fits g (refused_by n before)).told.answer (n ∷ ns)
fits_or true g n before m = m
fits_or false g n before m = Memᴰ.tail (Memᴰ.head refl)

given_answer : (g : Given) {ns : List ℕ} → OneOf g.told.answer ns → (r : ToldNumbers) (after : List ℕ) → Gives g r after → OneOf r.answer ns
given_answer g m r after p = rw p.told m

pub answers : Answers
unfolding fresh_by add_by draw_by show_by receive_by read_by write_by
answers =
    record {
      add_step = λ t k amount. by_step t (Add k amount);
      draw_step = λ t k amount. by_step t (Draw k amount);
      send_step = λ t from to. by_step t (Send from to);
      deliver_step = delivery_answers;
      lose_step = λ t p. by_step t (Lose p);
      run = λ t codes told r told' p. by_list (sum_refusals t) (ap (λ (r : Ran). r.answer) p.ran ∙ run_tells t codes told);
      fresh_table = λ count. by_list (fresh_table_refusals count) (fresh_table_tells count);
      on_the_way = λ t. by_list (sum_refusals t) refl;
      at_stations = λ t. by_list (sum_refusals t) refl;
      send_in = λ pool. by_list (send_in_refusals pool) refl;
      lose_in = λ pool p. by_list (lose_in_refusals pool p) refl;
      fresh = λ number count. by_list (fresh_refusals number count) (fresh_tells number count);
      add = λ s amount. by_list (add_refusals s amount) (add_tells s amount);
      draw = λ s amount. by_list (draw_refusals s amount) (draw_tells s amount);
      message_for = λ s to. by_list (show_refusals s to) (show_tells s to);
      receive = λ s m. by_list (receive_refusals s m) (receive_tells s m);
      read = λ bytes. by_list (read_refusals bytes) (read_tells bytes);
      receive_bytes = λ s bytes. by_list (receive_bytes_refusals s bytes) (receive_bytes_tells s bytes);
      write = λ m before r after w. by_list (write_refusals m (length before)) (write_tells _ _ before r after w);
      write_message = λ s to before r after w. by_list (write_for_refusals s to (length before)) (write_tells _ _ before r after w);
      take = λ x m. by_list (take_refusals x m) (take_tells x m);
      add_to = λ value intake amount. by_list (add_to_refusals value intake amount) (add_to_tells value intake amount);
      draw_from = λ value intake amount. by_list (draw_from_refusals value intake amount) (draw_from_tells value intake amount);
      qb_station_fresh = λ number count station. given_answer (fresh_by number count station) (by_list (fresh_refusals number count) (fresh_tells number count));
      qb_station_check = λ station. check_tells station;
      qb_station_add =
          λ station amount.
          let s = station_of station in
          given_answer (add_by amount station) (fits_or (station_fits station) _ not_sound station (by_list (add_refusals s amount) (add_tells s amount)));
      qb_station_draw =
          λ station amount.
          let s = station_of station in
          given_answer (draw_by amount station) (fits_or (station_fits station) _ not_sound station (by_list (draw_refusals s amount) (draw_tells s amount)));
      qb_station_write =
          λ station to out.
          let rs = write_for_refusals (station_of station) to (length out) in
          given_answer (show_by station to out) (fits_or (station_fits station) _ not_sound out (by_list rs refl));
      qb_station_receive =
          λ station bytes.
          let s = station_of station in
          given_answer (receive_by bytes station)
          (fits_or (station_fits station) _ not_sound station (by_list (receive_bytes_refusals s bytes) (receive_bytes_tells s bytes)));
      qb_record_read = λ bytes message. given_answer (read_by bytes message) (by_list (read_refusals bytes) (read_tells bytes));
      qb_record_write =
          λ message out.
          let rs = write_refusals (message_of message) (length out) in
          given_answer (write_by message out) (fits_or (message_fits message) _ no_record out (by_list rs refl));
      start = λ script. by_list (start_refusals script) (start_tells script);
      put_answer = λ answer out r out' p. by_list (put_answer_refusals out) (ap (λ (r : Told). r.answer) p.put);
      put_lines = λ script run out r out' p. rw p.put (by_list (put_lines_refusals run (length out)) (put_lines_tells script run (length out)));
    }
