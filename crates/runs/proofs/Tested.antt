-- A run that passes the test of a clause keeps the clause; and the clauses are demand 3, all of it.
-- Assumes nothing.
use Rattle.std.proofs.Common.{Option, Some, None, slice_get}
use Rattle.std.proofs.lemmas.Option.{slice_get_within}
use Rattle.std.proofs.lemmas.Bool.Decides.{nat_tests}
use Rattle.std.proofs.lemmas.Grind.{common_steps}
use Prim.Native.Nat.{ℕ, zero, suc, ◌<◌}
use mathlib.Core.Path.{◌≡◌, refl, sym, subst}
use mathlib.Core.Bool.{Bool, true, false}
use mathlib.Core.List.{List, [], ◌∷◌, ◌++◌}
use native.Mathlib.Omega.{arith}
use Rattle.rules.specs.declared.held.Slot.{Slot}
use lib.Dec.{eqb}
use lib.ListN.{length}
use borrow.Author.Tests.{eqb-true, eq-eqb}
use Rattle.handshake.specs.Channel.{Held}
use Rattle.handshake.specs.History.{Transfer, Entry, departure, arrival, Belong}
use Rattle.ground.specs.Below.{all_below}
use Rattle.station.specs.Held.{slot_for, token_for}
use Rattle.rules.specs.declared.held.Token.{Token}
use Rattle.ground.proofs.Tests.{other_one}
use Rattle.ground.proofs.Below.{all_at}
use Rattle.table.specs.Table.{station_at}
use Rattle.steps.specs.declared.asked.Step.{Step}
use Rattle.table.specs.declared.table.Table.{Table}
use Rattle.runs.specs.Runs.{Build, Line, log_of, table_after, history_of}
use Rattle.runs.specs.Demand3.{waits_for, Demand3}
use Rattle.runs.specs.Clauses.{Clause, passes, departed_before, one_departure, one_arrival, way, sound, answers, stale, DepartedBefore, OnlyOne, Answered, NeverLands, says}
use Rattle.runs.specs.Tested.{any_below, departure_in, arrival_in, belongs, same_in, departed_by, departed_before_test, apart, only_one_test, answered_test, may_land, lands_by, never_lands_test, stale_test, test}

-- every run keeps every clause exactly if demand 3 holds
pub by_clauses : (build : Build) (t : Table) → ((clause : Clause) (steps : List Step) → says clause build t steps) → Demand3 build t
by_clauses build t all =
    record {
      accounted = λ steps. record {
        passes = all passes steps;
        pairing = record { departed_before = all departed_before steps; one_departure = all one_departure steps; one_arrival = all one_arrival steps };
        way = all way steps;
        sound = all sound steps;
        answers = all answers steps;
      };
      stale = λ steps later. all stale (steps ++ later) steps later refl;
    }

pub each_clause : (build : Build) (t : Table) → Demand3 build t → (clause : Clause) (steps : List Step) → says clause build t steps
each_clause build t d passes steps = (d.accounted steps).passes
each_clause build t d departed_before steps = (d.accounted steps).pairing.departed_before
each_clause build t d one_departure steps = (d.accounted steps).pairing.one_departure
each_clause build t d one_arrival steps = (d.accounted steps).pairing.one_arrival
each_clause build t d way steps = (d.accounted steps).way
each_clause build t d sound steps = (d.accounted steps).sound
each_clause build t d answers steps = (d.accounted steps).answers
each_clause build t d stale steps = λ before later e. d.stale before later

any_at : (p : ℕ → Bool) (n : ℕ) → any_below p n ≡ true → (k : ℕ) × (k < n) × (p k ≡ true)
unfolding any_below
any_at p zero e = cc
any_at p (suc n) e = grind (arith, common_steps, any_at p n)

belong_test : (x y : Transfer ℕ) → Belong x y → belongs x y ≡ true
belong_test x y b = grind (arith, nat_tests)

-- the same transfer, amount and all
departure_same : (x : Transfer ℕ) (o : Option (Entry ℕ)) → same_in x (departure_in o) ≡ true → o ≡ Some (departure x)
departure_same x None e = cc
departure_same x (Some (departure y)) e = grind (arith, nat_tests)
departure_same x (Some (arrival y)) e = cc

departed_tested : (H : List (Entry ℕ)) → departed_before_test H ≡ true → DepartedBefore H
departed_tested H e i x h =
    let t = rw h at (all_at (λ i. departed_by H i (arrival_in (slice_get H i))) (length H) i e (slice_get_within H i _ h)) in
    let w = any_at (λ k. same_in x (departure_in (slice_get H k))) i t in
    (w.0, w.1, departure_same x (slice_get H w.0) w.2)

only_one_tested : (kind : Transfer ℕ → Entry ℕ) (kind_in : Option (Entry ℕ) → Option (Transfer ℕ)) → ((x : Transfer ℕ) → kind_in (Some (kind x)) ≡ Some x)
    → (H : List (Entry ℕ)) → only_one_test kind_in H ≡ true → OnlyOne kind H
only_one_tested kind kind_in found H e i k x y h l b =
    let row = all_at (λ i. all_below (apart kind_in H i) (length H)) (length H) i e (slice_get_within H i _ h) in
    let t = rw (h, l, found x, found y, belong_test x y b) at (all_at (apart kind_in H i) (length H) k row (slice_get_within H k _ l)) in
    eqb-true i k (other_one (eqb i k) false t (λ z. z))

answered_tested : (log : List Line) → answered_test log ≡ true → Answered log
unfolding answered_test
answered_tested [] e i x h = cc
answered_tested (y ∷ log) e zero x h = (grind (arith, nat_tests), grind (arith, nat_tests))
answered_tested (y ∷ log) e (suc i) x h = answered_tested log (grind (arith, nat_tests)) i x h

-- the token that an arrival belongs to, stored and not on the way, is one that may not land
stored_lands : (x : Held ℕ) (k : Token) (h : Option Token) (l : Option Slot) → h ≡ Some k → waits_for l k ≡ false → x.source ≡ k.source.0
    → x.destination ≡ k.destination.0 → may_land x h l ≡ false
stored_lands x k h l e w s d = rw (e, w, eq-eqb _ _ s, eq-eqb _ _ d)

never_tested : (t : Table) (later : List (Entry ℕ)) → never_lands_test t later ≡ true → NeverLands t later
never_tested t later e i j k token waits n x h b =
    let may = rw h at (all_at (λ n. lands_by t (arrival_in (slice_get later n))) (length later) n e (slice_get_within later n _ h)) in
    let m = b.maker in
    let r = b.receiver in
    let f : lands_by t (Some x) ≡ false = rw (m, r) (stored_lands x.token k (token_for (station_at t i) j) (slot_for (station_at t j) i) token waits b.source b.destination) in
    cc

stale_now : (build : Build) (t : Table) (steps : List Step) → stale_test build t steps ≡ true → NeverLands t (history_of (log_of build t steps))
unfolding stale_test log_of history_of
stale_now build t [] e = λ i j k token waits n x h b. cc
stale_now build t (step ∷ steps) e =
    let H = history_of (log_of build t (step ∷ steps)) in
    never_tested t H (grind (arith, nat_tests))

stale_tested : (build : Build) (t : Table) (steps : List Step) → stale_test build t steps ≡ true → says stale build t steps
unfolding stale_test table_after
stale_tested build t steps e [] later s = rw s (stale_now build t steps e)
stale_tested build t [] e (step ∷ before) later s = cc
stale_tested build t (other ∷ steps) e (step ∷ before) later s =
    let same : step ≡ other = cc in
    let rest : before ++ later ≡ steps = cc in
    let f : stale_test build (build t other).table steps ≡ true = grind (arith, nat_tests) in
    subst (λ (a : Step). let u = table_after build (build t a).table before in NeverLands u (history_of (log_of build u later))) (sym same)
    (stale_tested build (build t other).table steps f before later rest)

pub tested : (clause : Clause) (build : Build) (t : Table) (steps : List Step) → test clause build t steps ≡ true → says clause build t steps
tested passes build t steps e = eqb-true _ _ e
tested departed_before build t steps e = departed_tested (history_of (log_of build t steps)) e
tested one_departure build t steps e = only_one_tested departure departure_in (λ x. refl) (history_of (log_of build t steps)) e
tested one_arrival build t steps e = only_one_tested arrival arrival_in (λ x. refl) (history_of (log_of build t steps)) e
tested way build t steps e = eqb-true _ _ e
tested sound build t steps e = e
tested answers build t steps e = answered_tested (log_of build t steps) e
tested stale build t steps e = stale_tested build t steps e
