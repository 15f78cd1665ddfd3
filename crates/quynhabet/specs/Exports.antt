-- What each export tells, and what is then in what was lent.
use Rattle.std.specs.Prelude.{ℕ, ◌≡◌, Bool, cond, not, ◌&&◌, List, [], ◌∷◌, length}
use Rattle.station.specs.declared.outcome.Outcome.{Outcome}
use Rattle.rules.specs.declared.report.Report.{Report}
use Rattle.ground.specs.Answers.{not_sound, no_record}
use Rattle.ground.specs.Refusals.{Refusal, when, answer_of}
use Rattle.ground.specs.Choice.{if_done}
use Rattle.rules.specs.Report.{no_report, rules_of}
use Rattle.station.specs.Sound.{station_sound}
use Rattle.station.specs.Steps.{fresh_of, add_of, draw_of, message_for}
use Rattle.record.specs.declared.reading.Reading.{Reading}
use Rattle.record.specs.Dateless.{record_of}
use Rattle.record.specs.Reading.{read_of}
use Rattle.record.specs.Writing.{in_front, write_answer}
use Rattle.record.specs.AtStation.{write_for_answer, receive_bytes_of}
use Rattle.quynhabet.specs.declared.told.ToldNumbers.{ToldNumbers}
use Rattle.quynhabet.specs.Layout.{station_of, station_fits, numbers_of, message_of, message_fits, message_numbers}

abbrev pub told_of : ℕ → ℕ → Report → ToldNumbers
told_of answer result r = record { answer = answer; result = result; rules = rules_of r; opened = r.opened; made = r.made }

-- where there is no report
abbrev pub plain_told : ℕ → ℕ → ToldNumbers
plain_told answer result = told_of answer result no_report

-- what is told, and what is then in what was lent to be changed
pub record Given : Type 0 where
  pub told : ToldNumbers
  pub lent : List ℕ

-- the one promise of every export
pub record Gives (g : Given) (r : ToldNumbers) (after : List ℕ) : Type 0 where
  pub told : r ≡ g.told
  pub lent : after ≡ g.lent

-- what was lent changes only where the answer is 0
abbrev pub outcome_by : Outcome → List ℕ → Given
outcome_by o before = record { told = told_of o.answer o.result o.report; lent = if_done o.answer (numbers_of o.station) before }

abbrev pub refused_by : ℕ → List ℕ → Given
refused_by n before = record { told = plain_told n 0; lent = before }

-- numbers that are no station are not sound
abbrev pub step_by : Outcome → List ℕ → Given
step_by o before = cond (station_fits before) (outcome_by o before) (refused_by not_sound before)

abbrev pub written_by : ℕ → List ℕ → List ℕ → Given
written_by answer bytes before = record { told = plain_told answer (if_done answer (length bytes) 0); lent = if_done answer (in_front bytes before) before }

unfoldable pub fresh_by : ℕ → ℕ → List ℕ → Given
fresh_by number count before = outcome_by (fresh_of number count) before

abbrev pub Makes : ℕ → ℕ → List ℕ → ToldNumbers → List ℕ → Type 0
Makes number count before r later = Gives (fresh_by number count before) r later

-- whether numbers are a sound station: refused by 1
abbrev pub sound_numbers : List ℕ → Bool
sound_numbers numbers = station_fits numbers && station_sound (station_of numbers)

abbrev pub check_refusals : List ℕ → List Refusal
check_refusals numbers = when (not (sound_numbers numbers)) not_sound ∷ []

unfoldable pub check_of : List ℕ → ToldNumbers
check_of numbers = plain_told (answer_of (check_refusals numbers)) 0

unfoldable pub add_by : ℕ → List ℕ → Given
add_by amount before = step_by (add_of (station_of before) amount) before

abbrev pub Adds : List ℕ → ℕ → ToldNumbers → List ℕ → Type 0
Adds before amount r later = Gives (add_by amount before) r later

unfoldable pub draw_by : ℕ → List ℕ → Given
draw_by amount before = step_by (draw_of (station_of before) amount) before

abbrev pub Draws : List ℕ → ℕ → ToldNumbers → List ℕ → Type 0
Draws before amount r later = Gives (draw_by amount before) r later

unfoldable pub receive_by : List ℕ → List ℕ → Given
receive_by bytes before = step_by (receive_bytes_of (station_of before) bytes) before

abbrev pub Receives : List ℕ → List ℕ → ToldNumbers → List ℕ → Type 0
Receives before bytes r later = Gives (receive_by bytes before) r later

-- a station writes its message for another; its numbers are only read
unfoldable pub show_by : List ℕ → ℕ → List ℕ → Given
show_by numbers to before =
    cond (station_fits numbers)
    (written_by (write_for_answer (station_of numbers) to (length before)) (record_of (message_for (station_of numbers) to)) before)
    (refused_by not_sound before)

abbrev pub Shows : List ℕ → ℕ → List ℕ → ToldNumbers → List ℕ → Type 0
Shows numbers to before r later = Gives (show_by numbers to before) r later

-- a record is read into a message's numbers
abbrev pub reading_by : Reading → List ℕ → Given
reading_by r before = record { told = plain_told r.answer r.result; lent = if_done r.answer (message_numbers r.message) before }

unfoldable pub read_by : List ℕ → List ℕ → Given
read_by bytes before = reading_by (read_of bytes) before

abbrev pub Reads : List ℕ → List ℕ → ToldNumbers → List ℕ → Type 0
Reads bytes before r later = Gives (read_by bytes before) r later

-- a message's numbers are written as a record; numbers that are no message are not sound
unfoldable pub write_by : List ℕ → List ℕ → Given
write_by numbers before =
    cond (message_fits numbers) (written_by (write_answer (message_of numbers) (length before)) (record_of (message_of numbers)) before) (refused_by no_record before)

abbrev pub WritesNumbers : List ℕ → List ℕ → ToldNumbers → List ℕ → Type 0
WritesNumbers numbers before r later = Gives (write_by numbers before) r later
