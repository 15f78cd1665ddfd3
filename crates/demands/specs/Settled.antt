-- What the contracts have to settle, as one list: for each public function, the contract that it is
-- proved by is this promise, and any two outcomes that the promise allows are equal (Promises:
-- `Settles`, `SettlesBoth`). A promise is a definition applied to the parameters: to what one that
-- is lent holds, to any other itself. What one that is lent to be changed holds at the end is named
-- by its place. `tools/listed` holds each row against the source.
use Rattle.std.specs.Prelude.{ℕ, ◌≡◌, List, ℤ, Option}
use Rattle.std.specs.Borrow.{Bor, MutBor}
use Rattle.demands.specs.Promises.{Settles, SettlesBoth}
use Rattle.rules.specs.Terms.{slot_terms, slot_on, token_terms, token_on}
use Rattle.ground.specs.declared.refusal.Refusal.{Refusal}
use Rattle.ground.specs.declared.clocks.SourceClock.{SourceClock}
use Rattle.ground.specs.declared.clocks.DestinationClock.{DestinationClock}
use Rattle.ground.specs.Clocks.{source_in_range, source_above, source_same, source_before_end, source_next, destination_in_range, destination_above, destination_same, destination_before_end, destination_next}
use Rattle.ground.specs.Half.{half_of}
use Rattle.ground.specs.Tested.{number_of}
use Rattle.rules.specs.declared.held.Slot.{Slot}
use Rattle.rules.specs.declared.held.Terms.{Terms}
use Rattle.rules.specs.declared.held.Token.{Token}
use Rattle.rules.specs.declared.message.Message.{Message}
use Rattle.rules.specs.declared.report.Report.{Report}
use Rattle.rules.specs.declared.side.Side.{Side}
use Rattle.rules.specs.Message.{no_message}
use Rattle.rules.specs.Report.{no_report, rules_of}
use Rattle.rules.specs.Rules.{agree}
use Rattle.rules.specs.Stock.{added_to, drawn_from}
use Rattle.rules.specs.Taking.{taken_of}
use Rattle.station.specs.declared.station.Station.{Station}
use Rattle.station.specs.Sound.{count_sound, station_sound, message_sound, slot_sound, token_sound}
use Rattle.station.specs.Steps.{blank, fresh_of, add_of, draw_of, show_of, receive_of}
use Rattle.record.specs.Reading.{read_of}
use Rattle.record.specs.Writing.{WritesGiven}
use Rattle.record.specs.AtStation.{WritesFor, receive_bytes_of}
use Rattle.quynhabet.specs.Exports.{Makes, check_of, Adds, Draws, Shows, Receives, Reads, WritesNumbers}
use Rattle.steps.specs.declared.asked.Step.{Step}
use Rattle.pool.specs.declared.places.Place.{Place}
use Rattle.table.specs.declared.table.Table.{Table}
use Rattle.table.specs.Fresh.{fresh_table_of}
use Rattle.pool.specs.Lent.{SendsIn, LosesIn, sent_value, lost_value}
use Rattle.steps.specs.Running.{Runs, numbers_for, asked_by}
use Rattle.table.specs.Sound.{table_sound}
use Rattle.steps.specs.Steps.{step_of}
use Rattle.table.specs.Way.{way_asked, stations_asked}
use Rattle.measure.specs.Steps.{last_result_of, RunsFresh}
use Rattle.script.specs.declared.starting.Run.{Run}
use Rattle.script.specs.Putting.{PutsLines}
use Rattle.script.specs.Starting.{PutsAnswer, started_of}

pub record Settled : Type 2 where
  -- the number of a refusal
  pub ground-Refusal-number : (self : Refusal)
      → Settles Rattle.ground.specs.contracts.refusal.Refusal.number.ended (λ M 𝓤. Rattle.ground.specs.contracts.refusal.Refusal.number.clauses)
      (λ κ. (self, tt)) (λ κ r. r ≡ number_of self)
  -- the two clocks, and half of a difference
  pub ground-SourceClock-in_range : (self : SourceClock)
      → Settles Rattle.ground.specs.contracts.clocks.SourceClock.in_range.ended (λ M 𝓤. Rattle.ground.specs.contracts.clocks.SourceClock.in_range.clauses)
      (λ κ. (self, tt)) (λ κ r. r ≡ source_in_range self)
  pub ground-SourceClock-is_above : (self other : SourceClock)
      → Settles Rattle.ground.specs.contracts.clocks.SourceClock.is_above.ended (λ M 𝓤. Rattle.ground.specs.contracts.clocks.SourceClock.is_above.clauses)
      (λ κ. (self, (other, tt))) (λ κ r. r ≡ source_above self other)
  pub ground-SourceClock-equals : (self other : SourceClock)
      → Settles Rattle.ground.specs.contracts.clocks.SourceClock.equals.ended (λ M 𝓤. Rattle.ground.specs.contracts.clocks.SourceClock.equals.clauses)
      (λ κ. (self, (other, tt))) (λ κ r. r ≡ source_same self other)
  pub ground-SourceClock-before_end : (self : SourceClock)
      → Settles Rattle.ground.specs.contracts.clocks.SourceClock.before_end.ended (λ M 𝓤. Rattle.ground.specs.contracts.clocks.SourceClock.before_end.clauses)
      (λ κ. (self, tt)) (λ κ r. r ≡ source_before_end self)
  pub ground-SourceClock-next : (self : SourceClock)
      → Settles Rattle.ground.specs.contracts.clocks.SourceClock.next.ended (λ M 𝓤. Rattle.ground.specs.contracts.clocks.SourceClock.next.clauses)
      (λ κ. (self, tt)) (λ κ r. r ≡ source_next self)
  pub ground-DestinationClock-in_range : (self : DestinationClock)
      → Settles Rattle.ground.specs.contracts.clocks.DestinationClock.in_range.ended (λ M 𝓤. Rattle.ground.specs.contracts.clocks.DestinationClock.in_range.clauses)
      (λ κ. (self, tt)) (λ κ r. r ≡ destination_in_range self)
  pub ground-DestinationClock-is_above : (self other : DestinationClock)
      → Settles Rattle.ground.specs.contracts.clocks.DestinationClock.is_above.ended (λ M 𝓤. Rattle.ground.specs.contracts.clocks.DestinationClock.is_above.clauses)
      (λ κ. (self, (other, tt))) (λ κ r. r ≡ destination_above self other)
  pub ground-DestinationClock-equals : (self other : DestinationClock)
      → Settles Rattle.ground.specs.contracts.clocks.DestinationClock.equals.ended (λ M 𝓤. Rattle.ground.specs.contracts.clocks.DestinationClock.equals.clauses)
      (λ κ. (self, (other, tt))) (λ κ r. r ≡ destination_same self other)
  pub ground-DestinationClock-before_end : (self : DestinationClock)
      → Settles Rattle.ground.specs.contracts.clocks.DestinationClock.before_end.ended (λ M 𝓤. Rattle.ground.specs.contracts.clocks.DestinationClock.before_end.clauses)
      (λ κ. (self, tt)) (λ κ r. r ≡ destination_before_end self)
  pub ground-DestinationClock-next : (self : DestinationClock)
      → Settles Rattle.ground.specs.contracts.clocks.DestinationClock.next.ended (λ M 𝓤. Rattle.ground.specs.contracts.clocks.DestinationClock.next.clauses)
      (λ κ. (self, tt)) (λ κ r. r ≡ destination_next self)
  pub ground-half : (d : ℤ)
      → Settles Rattle.ground.specs.contracts.half.half.ended (λ M 𝓤. Rattle.ground.specs.contracts.half.half.clauses)
      (λ κ. (d, tt)) (λ κ r. r ≡ half_of d)
  -- the rules at one side, and what an add and a draw do to a stock
  pub rules-take : (x : Side) (m : Message)
      → Settles Rattle.rules.specs.contracts.taking.take.ended (λ M 𝓤. Rattle.rules.specs.contracts.taking.take.clauses)
      (λ κ. (x, (m, tt))) (λ κ r. r ≡ taken_of x m)
  pub rules-add_to : (value intake amount : ℕ)
      → Settles Rattle.rules.specs.contracts.stock.add_to.ended (λ M 𝓤. Rattle.rules.specs.contracts.stock.add_to.clauses)
      (λ κ. (value, (intake, (amount, tt)))) (λ κ r. r ≡ added_to value intake amount)
  pub rules-draw_from : (value intake amount : ℕ)
      → Settles Rattle.rules.specs.contracts.stock.draw_from.ended (λ M 𝓤. Rattle.rules.specs.contracts.stock.draw_from.clauses)
      (λ κ. (value, (intake, (amount, tt)))) (λ κ r. r ≡ drawn_from value intake amount)
  -- their tests and constants
  pub rules-clocks_agree : (t : Token) (l : Slot)
      → Settles Rattle.rules.specs.contracts.rules.clocks_agree.ended (λ M 𝓤. Rattle.rules.specs.contracts.rules.clocks_agree.clauses)
      (λ κ. (t, (l, tt))) (λ κ r. r ≡ agree t l)
  pub rules-no_message :
      Settles Rattle.rules.specs.contracts.message.no_message.ended (λ M 𝓤. Rattle.rules.specs.contracts.message.no_message.clauses)
      (λ κ. tt) (λ κ r. r ≡ no_message)
  pub rules-no_report :
      Settles Rattle.rules.specs.contracts.report.no_report.ended (λ M 𝓤. Rattle.rules.specs.contracts.report.no_report.clauses)
      (λ κ. tt) (λ κ r. r ≡ no_report)
  pub rules-rules_of : (report : Report)
      → Settles Rattle.rules.specs.contracts.report.rules_of.ended (λ M 𝓤. Rattle.rules.specs.contracts.report.rules_of.clauses)
      (λ κ. (report, tt)) (λ κ r. r ≡ rules_of report)
  -- what a slot and a token have in common
  pub rules-SlotHeld-terms : (self : Slot)
      → Settles Rattle.rules.specs.contracts.slot.SlotHeld.terms.ended (λ M 𝓤. Rattle.rules.specs.contracts.slot.SlotHeld.terms.clauses)
      (λ κ. (self, tt)) (λ κ r. r ≡ slot_terms self)
  pub rules-SlotHeld-on : (terms : Terms)
      → Settles Rattle.rules.specs.contracts.slot.SlotHeld.on.ended (λ M 𝓤. Rattle.rules.specs.contracts.slot.SlotHeld.on.clauses)
      (λ κ. (terms, tt)) (λ κ r. r ≡ slot_on terms)
  pub rules-TokenHeld-terms : (self : Token)
      → Settles Rattle.rules.specs.contracts.token.TokenHeld.terms.ended (λ M 𝓤. Rattle.rules.specs.contracts.token.TokenHeld.terms.clauses)
      (λ κ. (self, tt)) (λ κ r. r ≡ token_terms self)
  pub rules-TokenHeld-on : (terms : Terms)
      → Settles Rattle.rules.specs.contracts.token.TokenHeld.on.ended (λ M 𝓤. Rattle.rules.specs.contracts.token.TokenHeld.on.clauses)
      (λ κ. (terms, tt)) (λ κ r. r ≡ token_on terms)
  -- a station
  pub station-fresh : (number count : ℕ)
      → Settles Rattle.station.specs.contracts.steps.fresh.ended (λ M 𝓤. Rattle.station.specs.contracts.steps.fresh.clauses)
      (λ κ. (number, (count, tt))) (λ κ r. r ≡ fresh_of number count)
  pub station-add : (s : Station) (amount : ℕ)
      → Settles Rattle.station.specs.contracts.steps.add.ended (λ M 𝓤. Rattle.station.specs.contracts.steps.add.clauses)
      (λ κ. (s, (amount, tt))) (λ κ r. r ≡ add_of s amount)
  pub station-draw : (s : Station) (amount : ℕ)
      → Settles Rattle.station.specs.contracts.steps.draw.ended (λ M 𝓤. Rattle.station.specs.contracts.steps.draw.clauses)
      (λ κ. (s, (amount, tt))) (λ κ r. r ≡ draw_of s amount)
  pub station-message_for : (s : Station) (to : ℕ)
      → Settles Rattle.station.specs.contracts.message.message_for.ended (λ M 𝓤. Rattle.station.specs.contracts.message.message_for.clauses)
      (λ κ. (s, (to, tt))) (λ κ r. r ≡ show_of s to)
  pub station-receive : (s : Station) (m : Message)
      → Settles Rattle.station.specs.contracts.receiving.receive.ended (λ M 𝓤. Rattle.station.specs.contracts.receiving.receive.clauses)
      (λ κ. (s, (m, tt))) (λ κ r. r ≡ receive_of s m)
  -- its tests and constants
  pub station-count_is_sound : (count : ℕ)
      → Settles Rattle.station.specs.contracts.sound.count_is_sound.ended (λ M 𝓤. Rattle.station.specs.contracts.sound.count_is_sound.clauses)
      (λ κ. (count, tt)) (λ κ r. r ≡ count_sound count)
  pub station-station_is_sound : (s : Station)
      → Settles Rattle.station.specs.contracts.sound.station_is_sound.ended (λ M 𝓤. Rattle.station.specs.contracts.sound.station_is_sound.clauses)
      (λ κ. (s, tt)) (λ κ r. r ≡ station_sound s)
  pub station-slot_is_sound : (held : Option Slot) (clock : DestinationClock)
      → Settles Rattle.station.specs.contracts.sound.slot_is_sound.ended (λ M 𝓤. Rattle.station.specs.contracts.sound.slot_is_sound.clauses)
      (λ κ. (held, (clock, tt))) (λ κ r. r ≡ slot_sound held clock)
  pub station-token_is_sound : (held : Option Token) (clock : SourceClock)
      → Settles Rattle.station.specs.contracts.sound.token_is_sound.ended (λ M 𝓤. Rattle.station.specs.contracts.sound.token_is_sound.clauses)
      (λ κ. (held, (clock, tt))) (λ κ r. r ≡ token_sound held clock)
  pub station-message_is_sound : (m : Message)
      → Settles Rattle.station.specs.contracts.sound.message_is_sound.ended (λ M 𝓤. Rattle.station.specs.contracts.sound.message_is_sound.clauses)
      (λ κ. (m, tt)) (λ κ r. r ≡ message_sound m)
  pub station-blank_station : (number count : ℕ)
      → Settles Rattle.station.specs.contracts.steps.blank_station.ended (λ M 𝓤. Rattle.station.specs.contracts.steps.blank_station.clauses)
      (λ κ. (number, (count, tt))) (λ κ r. r ≡ blank number count)
  -- a record: the buffer that is written to is lent
  pub record-read : (bytes : Bor (List ℕ))
      → Settles Rattle.record.specs.contracts.reading.read.ended (λ M 𝓤. Rattle.record.specs.contracts.reading.read.clauses)
      (λ κ. (bytes, tt)) (λ κ r. r ≡ read_of bytes.now)
  pub record-write : (m : Message) (buffer : MutBor (List ℕ))
      → SettlesBoth Rattle.record.specs.contracts.writing.write.ended (λ M 𝓤. Rattle.record.specs.contracts.writing.write.clauses)
      (λ κ. (m, (buffer, tt))) (λ κ e. e.1.0.now) (λ κ. WritesGiven m buffer.now)
  pub record-write_message : (s : Station) (to : ℕ) (buffer : MutBor (List ℕ))
      → SettlesBoth Rattle.record.specs.contracts.at_station.write_message.ended (λ M 𝓤. Rattle.record.specs.contracts.at_station.write_message.clauses)
      (λ κ. (s, (to, (buffer, tt)))) (λ κ e. e.1.1.0.now) (λ κ. WritesFor s to buffer.now)
  pub record-receive_bytes : (s : Station) (bytes : Bor (List ℕ))
      → Settles Rattle.record.specs.contracts.at_station.receive_bytes.ended (λ M 𝓤. Rattle.record.specs.contracts.at_station.receive_bytes.clauses)
      (λ κ. (s, (bytes, tt))) (λ κ r. r ≡ receive_bytes_of s bytes.now)
  -- the exports: what is changed is lent
  pub quynhabet-qb_station_fresh : (number count : ℕ) (station : MutBor (List ℕ))
      → SettlesBoth Rattle.quynhabet.specs.contracts.exports.qb_station_fresh.ended (λ M 𝓤. Rattle.quynhabet.specs.contracts.exports.qb_station_fresh.clauses)
      (λ κ. (number, (count, (station, tt)))) (λ κ e. e.1.1.0.now) (λ κ. Makes number count station.now)
  pub quynhabet-qb_station_check : (station : Bor (List ℕ))
      → Settles Rattle.quynhabet.specs.contracts.exports.qb_station_check.ended (λ M 𝓤. Rattle.quynhabet.specs.contracts.exports.qb_station_check.clauses)
      (λ κ. (station, tt)) (λ κ r. r ≡ check_of station.now)
  pub quynhabet-qb_station_add : (station : MutBor (List ℕ)) (amount : ℕ)
      → SettlesBoth Rattle.quynhabet.specs.contracts.exports.qb_station_add.ended (λ M 𝓤. Rattle.quynhabet.specs.contracts.exports.qb_station_add.clauses)
      (λ κ. (station, (amount, tt))) (λ κ e. e.0.now) (λ κ. Adds station.now amount)
  pub quynhabet-qb_station_draw : (station : MutBor (List ℕ)) (amount : ℕ)
      → SettlesBoth Rattle.quynhabet.specs.contracts.exports.qb_station_draw.ended (λ M 𝓤. Rattle.quynhabet.specs.contracts.exports.qb_station_draw.clauses)
      (λ κ. (station, (amount, tt))) (λ κ e. e.0.now) (λ κ. Draws station.now amount)
  pub quynhabet-qb_station_write : (station : Bor (List ℕ)) (to : ℕ) (out : MutBor (List ℕ))
      → SettlesBoth Rattle.quynhabet.specs.contracts.exports.qb_station_write.ended (λ M 𝓤. Rattle.quynhabet.specs.contracts.exports.qb_station_write.clauses)
      (λ κ. (station, (to, (out, tt)))) (λ κ e. e.1.1.0.now) (λ κ. Shows station.now to out.now)
  pub quynhabet-qb_station_receive : (station : MutBor (List ℕ)) (bytes : Bor (List ℕ))
      → SettlesBoth Rattle.quynhabet.specs.contracts.exports.qb_station_receive.ended (λ M 𝓤. Rattle.quynhabet.specs.contracts.exports.qb_station_receive.clauses)
      (λ κ. (station, (bytes, tt))) (λ κ e. e.0.now) (λ κ. Receives station.now bytes.now)
  pub quynhabet-qb_record_read : (bytes : Bor (List ℕ)) (message : MutBor (List ℕ))
      → SettlesBoth Rattle.quynhabet.specs.contracts.exports.qb_record_read.ended (λ M 𝓤. Rattle.quynhabet.specs.contracts.exports.qb_record_read.clauses)
      (λ κ. (bytes, (message, tt))) (λ κ e. e.1.0.now) (λ κ. Reads bytes.now message.now)
  pub quynhabet-qb_record_write : (message : Bor (List ℕ)) (out : MutBor (List ℕ))
      → SettlesBoth Rattle.quynhabet.specs.contracts.exports.qb_record_write.ended (λ M 𝓤. Rattle.quynhabet.specs.contracts.exports.qb_record_write.clauses)
      (λ κ. (message, (out, tt))) (λ κ e. e.1.0.now) (λ κ. WritesNumbers message.now out.now)
  -- a table
  pub table-fresh_table : (count : ℕ)
      → Settles Rattle.table.specs.contracts.fresh.fresh_table.ended (λ M 𝓤. Rattle.table.specs.contracts.fresh.fresh_table.clauses)
      (λ κ. (count, tt)) (λ κ r. r ≡ fresh_table_of count)
  pub table-table_is_sound : (t : Table)
      → Settles Rattle.table.specs.contracts.sound.table_is_sound.ended (λ M 𝓤. Rattle.table.specs.contracts.sound.table_is_sound.clauses)
      (λ κ. (t, tt)) (λ κ r. r ≡ table_sound t)
  pub steps-step : (t : Table) (step : Step)
      → Settles Rattle.steps.specs.contracts.stepping.step.ended (λ M 𝓤. Rattle.steps.specs.contracts.stepping.step.clauses)
      (λ κ. (t, (step, tt))) (λ κ r. r ≡ step_of t step)
  pub steps-run : (t : Table) (codes : Bor (List ℕ)) (told : MutBor (List ℕ))
      → SettlesBoth Rattle.steps.specs.contracts.running.run.ended (λ M 𝓤. Rattle.steps.specs.contracts.running.run.clauses)
      (λ κ. (t, (codes, (told, tt)))) (λ κ e. e.1.1.0.now) (λ κ. Runs t codes.now told.now)
  pub steps-numbers_for : (asked : Option Step)
      → Settles Rattle.steps.specs.contracts.asked.numbers_for.ended (λ M 𝓤. Rattle.steps.specs.contracts.asked.numbers_for.clauses)
      (λ κ. (asked, tt)) (λ κ r. r ≡ numbers_for asked)
  pub steps-asked_by : (kind a b : ℕ)
      → Settles Rattle.steps.specs.contracts.asked.asked_by.ended (λ M 𝓤. Rattle.steps.specs.contracts.asked.asked_by.clauses)
      (λ κ. (kind, (a, (b, tt)))) (λ κ r. r ≡ asked_by kind a b)
  pub table-on_the_way : (t : Table)
      → Settles Rattle.table.specs.contracts.way.on_the_way.ended (λ M 𝓤. Rattle.table.specs.contracts.way.on_the_way.clauses)
      (λ κ. (t, tt)) (λ κ r. r ≡ way_asked t)
  pub table-at_stations : (t : Table)
      → Settles Rattle.table.specs.contracts.way.at_stations.ended (λ M 𝓤. Rattle.table.specs.contracts.way.at_stations.clauses)
      (λ κ. (t, tt)) (λ κ r. r ≡ stations_asked t)
  -- from a fresh table on, for the benchmark
  pub measure-qm_run : (count : ℕ) (codes : Bor (List ℕ)) (told : MutBor (List ℕ))
      → SettlesBoth Rattle.measure.specs.contracts.qm_run.ended (λ M 𝓤. Rattle.measure.specs.contracts.qm_run.clauses)
      (λ κ. (count, (codes, (told, tt)))) (λ κ e. e.1.1.0.now) (λ κ. RunsFresh count codes.now told.now)
  pub measure-qm_last_result : (count : ℕ) (codes : Bor (List ℕ))
      → Settles Rattle.measure.specs.contracts.qm_last_result.ended (λ M 𝓤. Rattle.measure.specs.contracts.qm_last_result.clauses)
      (λ κ. (count, (codes, tt))) (λ κ r. r ≡ last_result_of count codes.now)
  -- a pool, lent and by value
  pub pool-send_in : (pool : MutBor (List Place)) (m : Message)
      → SettlesBoth Rattle.pool.specs.contracts.lent.send_in.ended (λ M 𝓤. Rattle.pool.specs.contracts.lent.send_in.clauses)
      (λ κ. (pool, (m, tt))) (λ κ e. e.0.now) (λ κ. SendsIn pool.now m)
  pub pool-lose_in : (pool : MutBor (List Place)) (p : ℕ)
      → SettlesBoth Rattle.pool.specs.contracts.lent.lose_in.ended (λ M 𝓤. Rattle.pool.specs.contracts.lent.lose_in.clauses)
      (λ κ. (pool, (p, tt))) (λ κ e. e.0.now) (λ κ. LosesIn pool.now p)
  pub pool-send_value : (pool : List Place) (m : Message)
      → Settles Rattle.pool.specs.contracts.lent.send_value.ended (λ M 𝓤. Rattle.pool.specs.contracts.lent.send_value.clauses)
      (λ κ. (pool, (m, tt))) (λ κ r. r ≡ sent_value pool m)
  pub pool-lose_value : (pool : List Place) (p : ℕ)
      → Settles Rattle.pool.specs.contracts.lent.lose_value.ended (λ M 𝓤. Rattle.pool.specs.contracts.lent.lose_value.clauses)
      (λ κ. (pool, (p, tt))) (λ κ r. r ≡ lost_value pool p)
  -- a script
  pub script-start : (script : Bor (List ℕ))
      → Settles Rattle.script.specs.contracts.starting.start.ended (λ M 𝓤. Rattle.script.specs.contracts.starting.start.clauses)
      (λ κ. (script, tt)) (λ κ r. r ≡ started_of script.now)
  pub script-put_answer : (answer : ℕ) (out : MutBor (List ℕ))
      → SettlesBoth Rattle.script.specs.contracts.starting.put_answer.ended (λ M 𝓤. Rattle.script.specs.contracts.starting.put_answer.clauses)
      (λ κ. (answer, (out, tt))) (λ κ e. e.1.0.now) (λ κ. PutsAnswer answer out.now)
  pub script-put_lines : (script : Bor (List ℕ)) (run : Run) (out : MutBor (List ℕ))
      → SettlesBoth Rattle.script.specs.contracts.putting.put_lines.ended (λ M 𝓤. Rattle.script.specs.contracts.putting.put_lines.clauses)
      (λ κ. (script, (run, (out, tt)))) (λ κ e. e.1.1.0.now) (λ κ. PutsLines script.now run out.now)
