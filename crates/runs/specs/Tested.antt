-- The clauses of demand 3 as tests that compute, for a run that is written out.
use Rattle.std.specs.Prelude.{ℕ, zero, suc, ◌+◌, Bool, true, false, ◌&&◌, ◌||◌, not, List, [], ◌∷◌, eqb, length, get_or, Option, Some, None, slice_get}
use Rattle.rules.specs.declared.held.Token.{Token}
use Rattle.rules.specs.declared.held.Slot.{Slot}
use Rattle.handshake.specs.Channel.{Held}
use Rattle.handshake.specs.History.{Transfer, Entry, departure, arrival, departed, arrived}
use Rattle.ground.specs.Answers.{not_sound, value_limit}
use Rattle.ground.specs.Below.{all_below}
use Rattle.station.specs.Held.{slot_for, token_for}
use Rattle.table.specs.Sound.{table_sound}
use Rattle.table.specs.Table.{station_at}
use Rattle.table.specs.Way.{at_stations, on_the_way}
use Rattle.steps.specs.declared.asked.Step.{Step}
use Rattle.table.specs.declared.table.Table.{Table}
use Rattle.runs.specs.Runs.{Build, Line, log_of, table_after, all_added, all_drawn, history_of}
use Rattle.runs.specs.Demand3.{amount, waits_for}
use Rattle.runs.specs.Clauses.{Clause, passes, departed_before, one_departure, one_arrival, way, sound, answers, stale}

-- some number below a bound passes the test
unfoldable pub any_below : (ℕ → Bool) → ℕ → Bool
any_below test zero = false
any_below test (suc n) = test n || any_below test n

-- the transfer of an entry, if it is a departure, or an arrival
abbrev pub departure_in : Option (Entry ℕ) → Option (Transfer ℕ)
departure_in None = None
departure_in (Some (departure x)) = Some x
departure_in (Some (arrival x)) = None

abbrev pub arrival_in : Option (Entry ℕ) → Option (Transfer ℕ)
arrival_in None = None
arrival_in (Some (departure x)) = None
arrival_in (Some (arrival x)) = Some x

abbrev pub belongs : Transfer ℕ → Transfer ℕ → Bool
belongs x y =
    eqb x.maker y.maker && eqb x.receiver y.receiver && eqb x.token.source y.token.source && eqb x.token.destination y.token.destination

abbrev pub belong_in : Option (Transfer ℕ) → Option (Transfer ℕ) → Bool
belong_in None y = false
belong_in (Some x) None = false
belong_in (Some x) (Some y) = belongs x y

-- of the same amount too
abbrev pub same_in : Transfer ℕ → Option (Transfer ℕ) → Bool
same_in x None = false
same_in x (Some y) = belongs x y && eqb x.token.carried y.token.carried

abbrev pub departed_by : List (Entry ℕ) → ℕ → Option (Transfer ℕ) → Bool
departed_by H i None = true
departed_by H i (Some x) = any_below (λ k. same_in x (departure_in (slice_get H k))) i

abbrev pub departed_before_test : List (Entry ℕ) → Bool
departed_before_test H = all_below (λ i. departed_by H i (arrival_in (slice_get H i))) (length H)

abbrev pub apart : (Option (Entry ℕ) → Option (Transfer ℕ)) → List (Entry ℕ) → ℕ → ℕ → Bool
apart kind_in H i k = eqb i k || not (belong_in (kind_in (slice_get H i)) (kind_in (slice_get H k)))

abbrev pub only_one_test : (Option (Entry ℕ) → Option (Transfer ℕ)) → List (Entry ℕ) → Bool
only_one_test kind_in H = all_below (λ i. all_below (apart kind_in H i) (length H)) (length H)

unfoldable pub answered_test : List Line → Bool
answered_test [] = true
answered_test (x ∷ log) = not (eqb x.answer not_sound) && not (eqb x.answer value_limit) && answered_test log

-- an arrival, of a token that its maker stores: only where the slot waits for it
abbrev pub may_land : Held ℕ → Option Token → Option Slot → Bool
may_land x None l = true
may_land x (Some k) l = waits_for l k || not (eqb x.source k.source.0 && eqb x.destination k.destination.0)

abbrev pub lands_by : Table → Option (Transfer ℕ) → Bool
lands_by t None = true
lands_by t (Some x) = may_land x.token (token_for (station_at t x.maker) x.receiver) (slot_for (station_at t x.receiver) x.maker)

abbrev pub never_lands_test : Table → List (Entry ℕ) → Bool
never_lands_test t later = all_below (λ n. lands_by t (arrival_in (slice_get later n))) (length later)

unfoldable pub stale_test : Build → Table → List Step → Bool
stale_test build t [] = true
stale_test build t (step ∷ steps) =
    never_lands_test t (history_of (log_of build t (step ∷ steps))) && stale_test build (build t step).table steps

abbrev pub test : Clause → Build → Table → List Step → Bool
test passes build t steps = let log = log_of build t steps in let u = table_after build t steps in eqb (at_stations u + on_the_way u + all_drawn log) (all_added log)
test departed_before build t steps = departed_before_test (history_of (log_of build t steps))
test one_departure build t steps = only_one_test departure_in (history_of (log_of build t steps))
test one_arrival build t steps = only_one_test arrival_in (history_of (log_of build t steps))
test way build t steps =
    let H = history_of (log_of build t steps) in eqb (on_the_way (table_after build t steps) + arrived amount H) (departed amount H)
test sound build t steps = table_sound (table_after build t steps)
test answers build t steps = answered_test (log_of build t steps)
test stale build t steps = stale_test build t steps

-- the clauses in a row, and the place of each
abbrev pub clauses : List Clause
clauses = passes ∷ departed_before ∷ one_departure ∷ one_arrival ∷ way ∷ sound ∷ answers ∷ stale ∷ []

abbrev pub place_of : Clause → ℕ
place_of passes = 0
place_of departed_before = 1
place_of one_departure = 2
place_of one_arrival = 3
place_of way = 4
place_of sound = 5
place_of answers = 6
place_of stale = 7

-- all but one
abbrev pub others_test : Clause → Build → Table → List Step → Bool
others_test clause build t steps = all_below (λ n. test (get_or clauses n stale) build t steps || eqb n (place_of clause)) 8
