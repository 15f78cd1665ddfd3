-- Demand 1, as one list: what a refusal is, for each public function that has an answer. Where the
-- answer is not 0, the result is 0, the report is empty, and everything lent is as it was; a
-- refused making or reading hands back every number 0 and nothing held. The numbers are the answers
-- that can occur, in their order. It is stated of the definitions that the promises cite, applied
-- to the parameters by their names: `tools/listed` holds each row against the source.
-- Not listed: `station::count_is_sound`, `station::station_is_sound`. They are tests.
-- Not listed: `station::message_is_sound`, `table::table_is_sound`. They are tests.
-- Not listed: `station::slot_is_sound`, `station::token_is_sound`. They are tests.
-- Not listed: `rules::clocks_agree`, `ground::SourceClock::in_range`. They are tests.
-- Not listed: `ground::DestinationClock::in_range`. It is a test.
-- Not listed: `ground::SourceClock::before_end`. It is a test.
-- Not listed: `ground::DestinationClock::before_end`. It is a test.
-- Not listed: `ground::SourceClock::is_above`, `ground::DestinationClock::is_above`. They compare.
-- Not listed: `ground::SourceClock::equals`, `ground::DestinationClock::equals`. They compare.
-- Not listed: `ground::SourceClock::next`, `ground::DestinationClock::next`. They take any clock.
-- Not listed: `ground::half`. It takes any difference.
-- Not listed: `ground::Refusal::number`. It tells what it is given in numbers.
-- Not listed: `rules::SlotHeld::terms`, `rules::SlotHeld::on`. They take any slot, any terms.
-- Not listed: `rules::TokenHeld::terms`, `rules::TokenHeld::on`. They take any token, any terms.
-- Not listed: `station::blank_station`, `rules::no_message`. They make what they are told to.
-- Not listed: `rules::no_report`. It makes what it is told to.
-- Not listed: `rules::rules_of`, `steps::numbers_for`. They tell what they are given in numbers.
-- Not listed: `steps::asked_by`. It tells what numbers name.
-- Not listed: `measure::qm_run`, `measure::qm_last_result`. They have no answer: runs to be timed.
use Rattle.std.specs.Prelude.{ℕ, ◌≡◌, true, List, ◌≢◌, replicate}
use Rattle.rules.specs.declared.message.Message.{Message}
use Rattle.rules.specs.declared.side.Side.{Side}
use Rattle.rules.specs.declared.stock.Stock.{Stock}
use Rattle.rules.specs.declared.taking.Taken.{Taken}
use Rattle.station.specs.declared.message.Shown.{Shown}
use Rattle.station.specs.declared.outcome.Outcome.{Outcome}
use Rattle.station.specs.declared.station.Station.{Station}
use Rattle.ground.specs.Answers.{done}
use Rattle.ground.specs.Limits.{most_stations}
use Rattle.rules.specs.Report.{no_report}
use Rattle.rules.specs.Message.{no_message}
use Rattle.rules.specs.Stock.{added_to, drawn_from}
use Rattle.rules.specs.Taking.{taken_of}
use Rattle.station.specs.Steps.{blank, fresh_of, add_of, draw_of, show_of, receive_of}
use Rattle.record.specs.declared.reading.Reading.{Reading}
use Rattle.ground.specs.declared.told.Told.{Told}
use Rattle.record.specs.Reading.{read_of}
use Rattle.record.specs.Writing.{WritesGiven}
use Rattle.record.specs.AtStation.{WritesFor, receive_bytes_of}
use Rattle.quynhabet.specs.declared.told.ToldNumbers.{ToldNumbers}
use Rattle.quynhabet.specs.Exports.{plain_told, Makes, check_of, Adds, Draws, Shows, Receives, Reads, WritesNumbers}
use Rattle.pool.specs.declared.lent.Pooled.{Pooled}
use Rattle.steps.specs.declared.running.Ran.{Ran}
use Rattle.steps.specs.declared.asked.Step.{Step}
use Rattle.pool.specs.declared.places.Place.{Place}
use Rattle.table.specs.declared.stepped.Stepped.{Stepped}
use Rattle.table.specs.declared.table.Table.{Table}
use Rattle.pool.specs.Pool.{most_places}
use Rattle.table.specs.Fresh.{fresh_table_of}
use Rattle.pool.specs.Lent.{cleared, SendsIn, LosesIn, sent_value, lost_value}
use Rattle.steps.specs.Running.{Runs}
use Rattle.steps.specs.Steps.{step_of}
use Rattle.table.specs.Way.{way_asked, stations_asked}
use Rattle.script.specs.declared.putting.PutLines.{PutLines}
use Rattle.script.specs.declared.starting.Run.{Run}
use Rattle.script.specs.declared.starting.Started.{Started}
use Rattle.script.specs.Putting.{PutsLines}
use Rattle.script.specs.Starting.{PutsAnswer, started_of}

-- every number 0 and nothing held: no station, no table, and no run of a script
abbrev pub no_station : Station
no_station = blank 0 0

abbrev pub no_table : Table
no_table = record { count = 0; stations = replicate most_stations no_station; pool = replicate most_places cleared }

abbrev pub no_run : Run
no_run = record { table = no_table; at = 0; number = 0; finished = true }

-- a refusal that hands back a side: result 0, an empty report, and the side is this one
abbrev pub RefusedSide : Side → Taken → Type 0
RefusedSide x r = r.answer ≢ done → (r.result ≡ 0) × (r.report ≡ no_report) × (r.side ≡ x)

-- a refusal that hands back a stock: result 0, and value and intake are these
abbrev pub RefusedStock : ℕ → ℕ → Stock → Type 0
RefusedStock value intake r = r.answer ≢ done → (r.result ≡ 0) × (r.value ≡ value) × (r.intake ≡ intake)

-- a refusal that hands back a station: result 0, an empty report, and the station is this one
abbrev pub RefusedAs : Station → Outcome → Type 0
RefusedAs s r = r.answer ≢ done → (r.result ≡ 0) × (r.report ≡ no_report) × (r.station ≡ s)

-- a refusal that hands back a table: result 0, an empty report, and the table is this one
abbrev pub RefusedAsTable : Table → Stepped → Type 0
RefusedAsTable t r = r.answer ≢ done → (r.result ≡ 0) × (r.report ≡ no_report) × (r.table ≡ t)

-- a refused run of steps: result 0, the table is this one, and what was lent to be told into is as
-- it was
abbrev pub RefusedRan : Table → List ℕ → Ran → List ℕ → Type 0
RefusedRan t before r after = r.answer ≢ done → (r.result ≡ 0) × (r.table ≡ t) × (after ≡ before)

-- a refused sum is 0
abbrev pub RefusedSum : Told → Type 0
RefusedSum r = r.answer ≢ done → r.result ≡ 0

-- where there is no report: result 0, and what is there is what has to be there after a refusal
abbrev pub Refused : {A : Type 0} → ℕ → ℕ → A → A → Type 0
Refused answer result before after = answer ≢ done → (result ≡ 0) × (after ≡ before)

-- a refused showing or reading is no message
abbrev pub RefusedShown : Shown → Type 0
RefusedShown r = r.answer ≢ done → r.message ≡ no_message

abbrev pub RefusedReading : Reading → Type 0
RefusedReading r = Refused r.answer r.result no_message r.message

-- what was lent is as it was: the bytes of a buffer, the places of a pool
abbrev pub RefusedBytes : List ℕ → Told → List ℕ → Type 0
RefusedBytes before r after = Refused r.answer r.result before after

abbrev pub RefusedPool : List Place → Told → List Place → Type 0
RefusedPool before r after = Refused r.answer r.result before after

abbrev pub RefusedPooled : List Place → Pooled → Type 0
RefusedPooled before r = RefusedPool before r.told r.pool

-- where all that crosses is numbers: result 0, an empty report, and what was lent to be changed is
-- as it was
abbrev pub RefusedNumbers : List ℕ → ToldNumbers → List ℕ → Type 0
RefusedNumbers before r after = r.answer ≢ done → (r ≡ plain_told r.answer 0) × (after ≡ before)

-- where nothing is lent to be changed: result 0, and an empty report
abbrev pub RefusedTold : ToldNumbers → Type 0
RefusedTold r = r.answer ≢ done → r ≡ plain_told r.answer 0

-- a refused script hands back no run
abbrev pub RefusedStart : Started → Type 0
RefusedStart r = Refused r.answer r.result no_run r.run

abbrev pub RefusedPut : List ℕ → Told → List ℕ → Type 0
RefusedPut before r after = Refused r.answer r.result before after

-- a refused putting of lines: result 0, the run is this one, and so is the buffer
abbrev pub RefusedPutLines : Run → List ℕ → PutLines → List ℕ → Type 0
RefusedPutLines run before r after = r.answer ≢ done → (r.result ≡ 0) × (r.run ≡ run) × (after ≡ before)

pub record Demand1 : Type 0 where
  -- 1, 9, 10: the side is as it was
  pub rules-take : (x : Side) (m : Message) → RefusedSide x (taken_of x m)
  -- 1, 4, 5, 10: value and intake are as they were
  pub rules-add_to : (value intake amount : ℕ) → RefusedStock value intake (added_to value intake amount)
  -- 1, 4, 15: value and intake are as they were
  pub rules-draw_from : (value intake amount : ℕ) → RefusedStock value intake (drawn_from value intake amount)
  -- 1, 2: a refused making is no station
  pub station-fresh : (number count : ℕ) → RefusedAs no_station (fresh_of number count)
  -- 1, 4, 5, 10: the station is as it was
  pub station-add : (s : Station) (amount : ℕ) → RefusedAs s (add_of s amount)
  -- 1, 4, 15: the station is as it was
  pub station-draw : (s : Station) (amount : ℕ) → RefusedAs s (draw_of s amount)
  -- 1, 2, 3: no message is shown
  pub station-message_for : (s : Station) (to : ℕ) → RefusedShown (show_of s to)
  -- 1, 9, 2, 11, 10: the station is as it was
  pub station-receive : (s : Station) (m : Message) → RefusedAs s (receive_of s m)
  -- 9: a refused reading is no message
  pub record-read : (bytes : List ℕ) → RefusedReading (read_of bytes)
  -- 9, 14: every byte of the buffer is as it was
  pub record-write : (m : Message) (buffer : List ℕ) (r : Told) (buffer' : List ℕ)
      → WritesGiven m buffer r buffer' → RefusedBytes buffer r buffer'
  -- 1, 2, 3, 14: every byte of the buffer is as it was
  pub record-write_message : (s : Station) (to : ℕ) (buffer : List ℕ) (r : Told) (buffer' : List ℕ)
      → WritesFor s to buffer r buffer' → RefusedBytes buffer r buffer'
  -- 1, 9, 2, 11, 10: the station is as it was
  pub record-receive_bytes : (s : Station) (bytes : List ℕ) → RefusedAs s (receive_bytes_of s bytes)
  -- 1, 2: the station's numbers are as they were
  pub quynhabet-qb_station_fresh : (number count : ℕ) (station : List ℕ) (r : ToldNumbers) (station' : List ℕ)
      → Makes number count station r station' → RefusedNumbers station r station'
  -- 1: nothing is lent to be changed
  pub quynhabet-qb_station_check : (station : List ℕ) → RefusedTold (check_of station)
  -- 1, 4, 5, 10: the station's numbers are as they were
  pub quynhabet-qb_station_add : (station : List ℕ) (amount : ℕ) (r : ToldNumbers) (station' : List ℕ)
      → Adds station amount r station' → RefusedNumbers station r station'
  -- 1, 4, 15: the station's numbers are as they were
  pub quynhabet-qb_station_draw : (station : List ℕ) (amount : ℕ) (r : ToldNumbers) (station' : List ℕ)
      → Draws station amount r station' → RefusedNumbers station r station'
  -- 1, 2, 3, 14: every byte of the buffer is as it was
  pub quynhabet-qb_station_write : (station : List ℕ) (to : ℕ) (out : List ℕ) (r : ToldNumbers) (out' : List ℕ)
      → Shows station to out r out' → RefusedNumbers out r out'
  -- 1, 9, 2, 11, 10: the station's numbers are as they were
  pub quynhabet-qb_station_receive : (station bytes : List ℕ) (r : ToldNumbers) (station' : List ℕ)
      → Receives station bytes r station' → RefusedNumbers station r station'
  -- 9: the message's numbers are as they were
  pub quynhabet-qb_record_read : (bytes message : List ℕ) (r : ToldNumbers) (message' : List ℕ)
      → Reads bytes message r message' → RefusedNumbers message r message'
  -- 9, 14: every byte of the buffer is as it was
  pub quynhabet-qb_record_write : (message out : List ℕ) (r : ToldNumbers) (out' : List ℕ) → WritesNumbers message out r out' → RefusedNumbers out r out'
  -- 1: a refused making is no table
  pub table-fresh_table : (count : ℕ) → RefusedAsTable no_table (fresh_table_of count)
  -- 1, then those of an add, a draw, a send, a delivery or a loss: the table is as it was
  pub steps-step : (t : Table) (step : Step) → RefusedAsTable t (step_of t step)
  -- 1: the table is as it was, and nothing is told
  pub steps-run : (t : Table) (codes told : List ℕ) (r : Ran) (told' : List ℕ) → Runs t codes told r told' → RefusedRan t told r told'
  -- 1: the sum is 0
  pub table-on_the_way : (t : Table) → RefusedSum (way_asked t)
  -- 1: the sum is 0
  pub table-at_stations : (t : Table) → RefusedSum (stations_asked t)
  -- 1, 6: every place of the pool is as it was
  pub pool-send_in : (pool : List Place) (m : Message) (r : Told) (pool' : List Place)
      → SendsIn pool m r pool' → RefusedPool pool r pool'
  -- 1, 7, 8: every place of the pool is as it was
  pub pool-lose_in : (pool : List Place) (p : ℕ) (r : Told) (pool' : List Place)
      → LosesIn pool p r pool' → RefusedPool pool r pool'
  -- 6: the pool by value, as it was
  pub pool-send_value : (pool : List Place) (m : Message) → RefusedPooled pool (sent_value pool m)
  -- 7, 8: the pool by value, as it was
  pub pool-lose_value : (pool : List Place) (p : ℕ) → RefusedPooled pool (lost_value pool p)
  -- 13, 12, 1: a refused script hands back a run that is finished, with no table and every number 0
  pub script-start : (script : List ℕ) → RefusedStart (started_of script)
  -- 14: the buffer is as it was
  pub script-put_answer : (answer : ℕ) (out : List ℕ) (r : Told) (out' : List ℕ) → PutsAnswer answer out r out' → RefusedPut out r out'
  -- 1, 14: the run is handed back as it was, and so is the buffer
  pub script-put_lines : (script : List ℕ) (run : Run) (out : List ℕ) (r : PutLines) (out' : List ℕ) → PutsLines script run out r out' → RefusedPutLines run out r out'
