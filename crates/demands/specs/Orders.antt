-- The numbers of each list of refusals, from which an answer is computed, beside the order that
-- document 01 prints for it, with 15 last in a draw's; and what each entry point and step can then
-- answer.
use Rattle.std.specs.Prelude.{ℕ}
use mathlib.Core.List.{List, [], ◌∷◌, Memᴰ}
use Rattle.rules.specs.declared.message.Message.{Message}
use Rattle.rules.specs.declared.side.Side.{Side}
use Rattle.ground.specs.Answers.{done}
use Rattle.ground.specs.Refusals.{Refusal, numbers_in}
use Rattle.rules.specs.Stock.{add_to_refusals, added_to, draw_from_refusals, drawn_from}
use Rattle.rules.specs.Taking.{take_refusals, taken_of}
use Rattle.station.specs.declared.station.Station.{Station}
use Rattle.station.specs.Steps.{fresh_refusals, fresh_of, add_refusals, add_of, draw_refusals, draw_of, show_refusals, show_of, receive_refusals, receive_of}
use Rattle.ground.specs.declared.told.Told.{Told}
use Rattle.record.specs.Reading.{read_refusals, read_of}
use Rattle.record.specs.Writing.{write_refusals, WritesGiven}
use Rattle.record.specs.AtStation.{write_for_refusals, WritesFor, receive_bytes_refusals, receive_bytes_of}
use Rattle.quynhabet.specs.declared.told.ToldNumbers.{ToldNumbers}
use Rattle.quynhabet.specs.Exports.{Makes, check_refusals, check_of, Adds, Draws, Shows, Receives, Reads, WritesNumbers}
use Rattle.pool.specs.declared.places.Place.{Place}
use Rattle.steps.specs.declared.running.Ran.{Ran}
use Rattle.steps.specs.declared.asked.Step.TheVariants.{Add, Draw, Send, Deliver, Lose}
use Rattle.table.specs.declared.table.Table.{Table}
use Rattle.table.specs.Fresh.{fresh_table_refusals, fresh_table_of}
use Rattle.pool.specs.Lent.{send_in_refusals, send_in_told, lose_in_refusals, lose_in_told}
use Rattle.steps.specs.Running.{Runs}
use Rattle.steps.specs.Steps.{step_refusals, step_of}
use Rattle.table.specs.Way.{sum_refusals, way_asked, stations_asked}
use Rattle.script.specs.declared.putting.PutLines.{PutLines}
use Rattle.script.specs.declared.starting.Run.{Run}
use Rattle.script.specs.Putting.{PutsLines, put_lines_refusals}
use Rattle.script.specs.Starting.{PutsAnswer, put_answer_refusals, start_refusals, started_of}

-- the numbers of a list of refusals in their order, and the order that is printed
pub record Order : Type 0 where
  pub found : List ℕ
  pub printed : List ℕ

abbrev order : List Refusal → List ℕ → Order
order refusals printed = record { found = numbers_in refusals; printed = printed }

-- of any station, table, message, side, pool and bytes, and of any three numbers
abbrev pub orders : Station → Table → Message → Side → List Place → Run → List ℕ → ℕ → ℕ → ℕ → List Order
orders s t m x pool run bytes i j k =
    -- the steps of a table: add, draw, send, deliver, lose
    order (step_refusals t (Add i j)) (1 ∷ 2 ∷ 4 ∷ 5 ∷ 10 ∷ [])
    ∷ order (step_refusals t (Draw i j)) (1 ∷ 2 ∷ 4 ∷ 15 ∷ [])
    ∷ order (step_refusals t (Send i j)) (1 ∷ 2 ∷ 3 ∷ 6 ∷ [])
    ∷ order (step_refusals t (Deliver i)) (1 ∷ 7 ∷ 8 ∷ 10 ∷ [])
    ∷ order (step_refusals t (Lose i)) (1 ∷ 7 ∷ 8 ∷ [])
    -- receive bytes at a station, write a given message
    ∷ order (receive_bytes_refusals s bytes) (1 ∷ 9 ∷ 2 ∷ 11 ∷ 10 ∷ [])
    ∷ order (write_refusals m i) (9 ∷ 14 ∷ [])
    -- at one station: add, draw, write its message for another
    ∷ order (add_refusals s i) (1 ∷ 4 ∷ 5 ∷ 10 ∷ [])
    ∷ order (draw_refusals s i) (1 ∷ 4 ∷ 15 ∷ [])
    ∷ order (write_for_refusals s i j) (1 ∷ 2 ∷ 3 ∷ 14 ∷ [])
    -- making a fresh table, a fresh station
    ∷ order (fresh_table_refusals i) (1 ∷ [])
    ∷ order (fresh_refusals i j) (1 ∷ 2 ∷ [])
    -- reading a record, the sum on the way
    ∷ order (read_refusals bytes) (9 ∷ [])
    ∷ order (sum_refusals t) (1 ∷ [])
    -- where no order is printed it is that of the whole without what is not looked at. Receiving a
    -- message by value, and showing one: no buffer
    ∷ order (receive_refusals s m) (1 ∷ 9 ∷ 2 ∷ 11 ∷ 10 ∷ [])
    ∷ order (show_refusals s i) (1 ∷ 2 ∷ 3 ∷ [])
    -- send and lose on a lent pool: no stations
    ∷ order (send_in_refusals pool) (1 ∷ 6 ∷ [])
    ∷ order (lose_in_refusals pool i) (1 ∷ 7 ∷ 8 ∷ [])
    -- the rules at one side: no station numbers. An add and a draw to a stock
    ∷ order (take_refusals x m) (1 ∷ 9 ∷ 10 ∷ [])
    ∷ order (add_to_refusals i j k) (1 ∷ 4 ∷ 5 ∷ 10 ∷ [])
    ∷ order (draw_from_refusals i j k) (1 ∷ 4 ∷ 15 ∷ [])
    -- a script: an overlong one is tested first, then its first line, then the count; and the two
    -- calls that put its output
    ∷ order (start_refusals bytes) (13 ∷ 12 ∷ 1 ∷ [])
    ∷ order (put_answer_refusals bytes) (14 ∷ [])
    ∷ order (put_lines_refusals run i) (1 ∷ 14 ∷ [])
    -- whether a station's numbers are sound
    ∷ order (check_refusals bytes) (1 ∷ [])
    ∷ []

-- an answer that is 0 or one of these numbers
abbrev pub OneOf : ℕ → List ℕ → Type 0
OneOf answer numbers = Memᴰ answer (done ∷ numbers)

-- what each entry point and step can answer
pub record Answers : Type 0 where
  pub add_step : (t : Table) (k amount : ℕ) → OneOf (step_of t (Add k amount)).answer (1 ∷ 2 ∷ 4 ∷ 5 ∷ 10 ∷ [])
  pub draw_step : (t : Table) (k amount : ℕ) → OneOf (step_of t (Draw k amount)).answer (1 ∷ 2 ∷ 4 ∷ 15 ∷ [])
  pub send_step : (t : Table) (from to : ℕ) → OneOf (step_of t (Send from to)).answer (1 ∷ 2 ∷ 3 ∷ 6 ∷ [])
  pub deliver_step : (t : Table) (p : ℕ) → OneOf (step_of t (Deliver p)).answer (1 ∷ 7 ∷ 8 ∷ 10 ∷ [])
  pub lose_step : (t : Table) (p : ℕ) → OneOf (step_of t (Lose p)).answer (1 ∷ 7 ∷ 8 ∷ [])
  pub run : (t : Table) (codes told : List ℕ) (r : Ran) (told' : List ℕ) → Runs t codes told r told' → OneOf r.answer (1 ∷ [])
  pub fresh_table : (count : ℕ) → OneOf (fresh_table_of count).answer (1 ∷ [])
  pub on_the_way : (t : Table) → OneOf (way_asked t).answer (1 ∷ [])
  pub at_stations : (t : Table) → OneOf (stations_asked t).answer (1 ∷ [])
  pub send_in : (pool : List Place) → OneOf (send_in_told pool).answer (1 ∷ 6 ∷ [])
  pub lose_in : (pool : List Place) (p : ℕ) → OneOf (lose_in_told pool p).answer (1 ∷ 7 ∷ 8 ∷ [])
  pub fresh : (number count : ℕ) → OneOf (fresh_of number count).answer (1 ∷ 2 ∷ [])
  pub add : (s : Station) (amount : ℕ) → OneOf (add_of s amount).answer (1 ∷ 4 ∷ 5 ∷ 10 ∷ [])
  pub draw : (s : Station) (amount : ℕ) → OneOf (draw_of s amount).answer (1 ∷ 4 ∷ 15 ∷ [])
  pub message_for : (s : Station) (to : ℕ) → OneOf (show_of s to).answer (1 ∷ 2 ∷ 3 ∷ [])
  pub receive : (s : Station) (m : Message) → OneOf (receive_of s m).answer (1 ∷ 9 ∷ 2 ∷ 11 ∷ 10 ∷ [])
  pub read : (bytes : List ℕ) → OneOf (read_of bytes).answer (9 ∷ [])
  pub receive_bytes : (s : Station) (bytes : List ℕ) → OneOf (receive_bytes_of s bytes).answer (1 ∷ 9 ∷ 2 ∷ 11 ∷ 10 ∷ [])
  pub write : (m : Message) (before : List ℕ) (r : Told) (after : List ℕ) → WritesGiven m before r after → OneOf r.answer (9 ∷ 14 ∷ [])
  pub write_message : (s : Station) (to : ℕ) (before : List ℕ) (r : Told) (after : List ℕ)
      → WritesFor s to before r after → OneOf r.answer (1 ∷ 2 ∷ 3 ∷ 14 ∷ [])
  pub take : (x : Side) (m : Message) → OneOf (taken_of x m).answer (1 ∷ 9 ∷ 10 ∷ [])
  pub add_to : (value intake amount : ℕ) → OneOf (added_to value intake amount).answer (1 ∷ 4 ∷ 5 ∷ 10 ∷ [])
  pub draw_from : (value intake amount : ℕ) → OneOf (drawn_from value intake amount).answer (1 ∷ 4 ∷ 15 ∷ [])
  pub qb_station_fresh : (number count : ℕ) (station : List ℕ) (r : ToldNumbers) (station' : List ℕ) → Makes number count station r station' → OneOf r.answer (1 ∷ 2 ∷ [])
  pub qb_station_check : (station : List ℕ) → OneOf (check_of station).answer (1 ∷ [])
  pub qb_station_add : (station : List ℕ) (amount : ℕ) (r : ToldNumbers) (station' : List ℕ) → Adds station amount r station' → OneOf r.answer (1 ∷ 4 ∷ 5 ∷ 10 ∷ [])
  pub qb_station_draw : (station : List ℕ) (amount : ℕ) (r : ToldNumbers) (station' : List ℕ) → Draws station amount r station' → OneOf r.answer (1 ∷ 4 ∷ 15 ∷ [])
  pub qb_station_write : (station : List ℕ) (to : ℕ) (out : List ℕ) (r : ToldNumbers) (out' : List ℕ) → Shows station to out r out' → OneOf r.answer (1 ∷ 2 ∷ 3 ∷ 14 ∷ [])
  pub qb_station_receive : (station bytes : List ℕ) (r : ToldNumbers) (station' : List ℕ)
      → Receives station bytes r station' → OneOf r.answer (1 ∷ 9 ∷ 2 ∷ 11 ∷ 10 ∷ [])
  pub qb_record_read : (bytes message : List ℕ) (r : ToldNumbers) (message' : List ℕ) → Reads bytes message r message' → OneOf r.answer (9 ∷ [])
  pub qb_record_write : (message out : List ℕ) (r : ToldNumbers) (out' : List ℕ) → WritesNumbers message out r out' → OneOf r.answer (9 ∷ 14 ∷ [])
  pub start : (script : List ℕ) → OneOf (started_of script).answer (13 ∷ 12 ∷ 1 ∷ [])
  pub put_answer : (answer : ℕ) (out : List ℕ) (r : Told) (out' : List ℕ) → PutsAnswer answer out r out' → OneOf r.answer (14 ∷ [])
  pub put_lines : (script : List ℕ) (run : Run) (out : List ℕ) (r : PutLines) (out' : List ℕ) → PutsLines script run out r out' → OneOf r.answer (1 ∷ 14 ∷ [])
