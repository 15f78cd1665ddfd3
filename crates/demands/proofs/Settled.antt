-- Every contract is the promise that the list says, since both compute to the same, and every
-- promise settles its outcome: one that the outcome is what a definition gives does, and so does
-- one of two such parts. Assumes nothing.
use Prim.Native.Nat.{ℕ}
use mathlib.Core.Path.{◌≡◌, refl, sym, ◌∙◌}
use mathlib.Core.List.{List}
use lib.ListN.{length}
use lib.Seq.{sets}
use denote.Triple.Clauses.{Ended}
use Rattle.ground.specs.Told.{told_with}
use Rattle.ground.specs.Choice.{if_done}
use Rattle.record.specs.Writing.{in_front, Writes}
use Rattle.quynhabet.specs.Exports.{Given, Gives}
use Rattle.table.specs.declared.table.Table.{Table}
use Rattle.steps.specs.Running.{ran_of, told_in_run, Runs}
use Rattle.measure.specs.Steps.{RunsFresh}
use Rattle.script.specs.declared.starting.Run.{Run}
use Rattle.script.specs.Putting.{piece_told, PutsLines, piece_of}
use Rattle.script.specs.Starting.{answer_bytes, PutsAnswer, put_answer_of}
use Rattle.demands.specs.Promises.{Arguments, Contract, Lifetimes, Promises, Result, Settles}
use Rattle.demands.specs.Settled.{Settled}

same : {A : Type 0} (d : A) (x y : A) → x ≡ d → y ≡ d → x ≡ y
same d x y p q = p ∙ sym q

pair : {A B : Type 0} (x y : A × B) → x.0 ≡ y.0 → x.1 ≡ y.1 → x ≡ y
pair x y p q = λ i. (p i, q i)

-- a contract that promises what a definition gives
given : {T : Ended} {contract : Contract T} {arguments : Arguments T} {d : (κ : Lifetimes T) → Result T κ}
    → Promises T contract arguments (λ κ r e. r ≡ d κ) → Settles T contract arguments (λ κ r. r ≡ d κ)
given {d} p = record { promised = p; settled = λ κ x y. same (d κ) x y }

-- two parts that a definition gives each
both : {A B : Type 0} (d : A) (e : B) (x y : A × B) → (x.0 ≡ d) × (x.1 ≡ e) → (y.0 ≡ d) × (y.1 ≡ e) → x ≡ y
both d e x y p q = pair x y (same d _ _ p.0 q.0) (same e _ _ p.1 q.1)

writing : (answer : ℕ) (bytes before : List ℕ) (x y : _ × List ℕ) → Writes answer bytes before x.0 x.1 → Writes answer bytes before y.0 y.1 → x ≡ y
writing answer bytes before x y p q =
    pair x y (same (told_with answer (length bytes)) _ _ p.told q.told) (same (if_done answer (in_front bytes before) before) _ _ p.buffer q.buffer)

giving : (g : Given) (x y : _ × List ℕ) → Gives g x.0 x.1 → Gives g y.0 y.1 → x ≡ y
giving g x y p q = pair x y (same g.told _ _ p.told q.told) (same g.lent _ _ p.lent q.lent)

running : (t : Table) (codes told : List ℕ) (x y : _ × List ℕ) → Runs t codes told x.0 x.1 → Runs t codes told y.0 y.1 → x ≡ y
running t codes told x y p q = pair x y (same (ran_of t codes told) _ _ p.ran q.ran) (same (told_in_run t codes told) _ _ p.lent q.lent)

running_fresh : (count : ℕ) (codes told : List ℕ) (x y : ℕ × List ℕ) → RunsFresh count codes told x.0 x.1 → RunsFresh count codes told y.0 y.1 → x ≡ y
running_fresh count codes told x y p q = pair x y (p.ran ∙ sym q.ran) (p.lent ∙ sym q.lent)

putting : (answer : ℕ) (out : List ℕ) (x y : _ × List ℕ) → PutsAnswer answer out x.0 x.1 → PutsAnswer answer out y.0 y.1 → x ≡ y
putting answer out x y p q = pair x y (same (put_answer_of answer out) _ _ p.put q.put) (same (sets out 0 (answer_bytes answer out)) _ _ p.lent q.lent)

put_lines_settled : (script : List ℕ) (run : Run) (out : List ℕ) (x y : _ × List ℕ) → PutsLines script run out x.0 x.1 → PutsLines script run out y.0 y.1 → x ≡ y
put_lines_settled script run out x y p q =
    let turn = piece_of script run (length out) in
    pair x y (same (piece_told turn) _ _ p.put q.put) (same (sets out 0 turn.bytes) _ _ p.lent q.lent)

pub settled : Settled
settled =
    record {
      ground-Refusal-number = λ self. given refl;
      ground-SourceClock-in_range = λ self. given refl;
      ground-SourceClock-is_above = λ self other. given refl;
      ground-SourceClock-equals = λ self other. given refl;
      ground-SourceClock-before_end = λ self. given refl;
      ground-SourceClock-next = λ self. given refl;
      ground-DestinationClock-in_range = λ self. given refl;
      ground-DestinationClock-is_above = λ self other. given refl;
      ground-DestinationClock-equals = λ self other. given refl;
      ground-DestinationClock-before_end = λ self. given refl;
      ground-DestinationClock-next = λ self. given refl;
      ground-half = λ d. given refl;
      rules-take = λ x m. given refl;
      rules-add_to = λ value intake amount. given refl;
      rules-draw_from = λ value intake amount. given refl;
      rules-clocks_agree = λ t l. given refl;
      rules-no_message = given refl;
      rules-no_report = given refl;
      rules-rules_of = λ report. given refl;
      rules-SlotHeld-terms = λ self. given refl;
      rules-SlotHeld-on = λ terms. given refl;
      rules-TokenHeld-terms = λ self. given refl;
      rules-TokenHeld-on = λ terms. given refl;
      station-fresh = λ number count. given refl;
      station-add = λ s amount. given refl;
      station-draw = λ s amount. given refl;
      station-message_for = λ s to. given refl;
      station-receive = λ s m. given refl;
      station-count_is_sound = λ count. given refl;
      station-station_is_sound = λ s. given refl;
      station-slot_is_sound = λ held clock. given refl;
      station-token_is_sound = λ held clock. given refl;
      station-message_is_sound = λ m. given refl;
      station-blank_station = λ number count. given refl;
      record-read = λ bytes. given refl;
      record-write = λ m buffer. record { promised = refl; settled = λ κ. writing _ _ _ };
      record-write_message = λ s to buffer. record { promised = refl; settled = λ κ. writing _ _ _ };
      record-receive_bytes = λ s bytes. given refl;
      quynhabet-qb_station_fresh = λ number count station. record { promised = refl; settled = λ κ. giving _ };
      quynhabet-qb_station_check = λ station. given refl;
      quynhabet-qb_station_add = λ station amount. record { promised = refl; settled = λ κ. giving _ };
      quynhabet-qb_station_draw = λ station amount. record { promised = refl; settled = λ κ. giving _ };
      quynhabet-qb_station_write = λ station to out. record { promised = refl; settled = λ κ. giving _ };
      quynhabet-qb_station_receive = λ station bytes. record { promised = refl; settled = λ κ. giving _ };
      quynhabet-qb_record_read = λ bytes message. record { promised = refl; settled = λ κ. giving _ };
      quynhabet-qb_record_write = λ message out. record { promised = refl; settled = λ κ. giving _ };
      table-fresh_table = λ count. given refl;
      table-table_is_sound = λ t. given refl;
      steps-step = λ t step. given refl;
      steps-run = λ t codes told. record { promised = refl; settled = λ κ. running _ _ _ };
      steps-numbers_for = λ asked. given refl;
      steps-asked_by = λ kind a b. given refl;
      table-on_the_way = λ t. given refl;
      table-at_stations = λ t. given refl;
      measure-qm_run = λ count codes told. record { promised = refl; settled = λ κ. running_fresh _ _ _ };
      measure-qm_last_result = λ count codes. given refl;
      pool-send_in = λ pool m. record { promised = refl; settled = λ κ. both _ _ };
      pool-lose_in = λ pool p. record { promised = refl; settled = λ κ. both _ _ };
      pool-send_value = λ pool m. given refl;
      pool-lose_value = λ pool p. given refl;
      script-start = λ script. given refl;
      script-put_answer = λ answer out. record { promised = refl; settled = λ κ. putting _ _ };
      script-put_lines = λ script run out. record { promised = refl; settled = λ κ. put_lines_settled _ _ _ };
    }
