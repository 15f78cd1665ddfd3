-- For each entry point and each step an input for which its answer is 0: no build that refuses
-- everything keeps its promise.
use Rattle.std.specs.Prelude.{ℕ, List, [], ◌∷◌, replicate}
use Rattle.rules.specs.Stock.{added_to, drawn_from}
use Rattle.rules.specs.Taking.{taken_of}
use Rattle.station.specs.Steps.{fresh_of, add_of, draw_of, show_of, receive_of}
use Rattle.record.specs.Dateless.{record_of}
use Rattle.record.specs.Reading.{read_of}
use Rattle.record.specs.Writing.{write_answer}
use Rattle.record.specs.AtStation.{write_for_answer, receive_bytes_of}
use Rattle.steps.specs.declared.asked.Step.TheVariants.{Add, Draw, Send, Deliver, Lose}
use Rattle.table.specs.declared.table.Table.{Table}
use Rattle.table.specs.Fresh.{fresh_table_of}
use Rattle.pool.specs.Lent.{send_in_told, lose_in_told}
use Rattle.steps.specs.Running.{ran_of}
use Rattle.steps.specs.Steps.{step_of}
use Rattle.table.specs.Way.{way_asked, stations_asked}
use Rattle.script.specs.Putting.{piece_of}
use Rattle.script.specs.Starting.{put_answer_of, started_of}
use Rattle.demands.specs.Wrong.{has_three, gave, asked, pays}
use Rattle.demands.specs.WrongRules.{waiting_for_five}
use Rattle.demands.specs.WrongScripts.{opening}

-- two stations with nothing, and the same with a message of station 0 at place 0
abbrev empty : Table
empty = (fresh_table_of 2).table

abbrev waiting : Table
waiting = (step_of empty (Send 0 1)).table

abbrev pub done_answers : List ℕ
done_answers =
    -- take
    (taken_of (waiting_for_five 2) pays).answer
    -- add_to
    ∷ (added_to 3 3 4).answer
    -- draw_from
    ∷ (drawn_from 3 3 2).answer
    -- fresh
    ∷ (fresh_of 1 2).answer
    -- add
    ∷ (add_of has_three 4).answer
    -- draw
    ∷ (draw_of has_three 2).answer
    -- message_for
    ∷ (show_of gave 0).answer
    -- receive
    ∷ (receive_of asked pays).answer
    -- read
    ∷ (read_of (record_of pays)).answer
    -- write
    ∷ write_answer pays 49
    -- write_message
    ∷ write_for_answer gave 0 49
    -- receive_bytes
    ∷ (receive_bytes_of asked (record_of pays)).answer
    -- fresh_table
    ∷ (fresh_table_of 2).answer
    -- step: an add, a draw, a send, a delivery and a loss
    ∷ (step_of empty (Add 0 10)).answer
    ∷ (step_of (step_of empty (Add 0 10)).table (Draw 0 10)).answer
    ∷ (step_of empty (Send 0 1)).answer
    ∷ (step_of waiting (Deliver 0)).answer
    ∷ (step_of waiting (Lose 0)).answer
    -- run
    ∷ (ran_of empty (0 ∷ 0 ∷ 10 ∷ []) (replicate 5 0)).answer
    -- on_the_way
    ∷ (way_asked empty).answer
    -- at_stations
    ∷ (stations_asked empty).answer
    -- send_in, send_value
    ∷ (send_in_told empty.pool).answer
    -- lose_in, lose_value
    ∷ (lose_in_told waiting.pool 0).answer
    -- start
    ∷ (started_of opening).answer
    -- put_answer
    ∷ (put_answer_of 13 (replicate 64 0)).answer
    -- put_lines
    ∷ (piece_of opening (started_of opening).run 2048).answer
    ∷ []
