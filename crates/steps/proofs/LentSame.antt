-- On 64 places the lent send and lose tell and leave what the table's send and lose do. Assumes
-- nothing.
use Prim.Native.Nat.{ℕ, ◌<◌}
use mathlib.Core.Path.{◌≡◌, sym, ◌∙◌}
use native.Mathlib.Omega.{arith}
use mathlib.Core.Bool.{true, false}
use mathlib.Core.List.{List}
use lib.Dec.{ltb, eqb}
use lib.ListN.{length}
use borrow.Author.Tests.{eq-eqb, lt-ltb, ne_eqb}
use Rattle.station.specs.Steps.{show_answer, message_for}
use Rattle.station.proofs.Answering.{shown}
use Rattle.pool.specs.declared.places.Place.{Place}
use Rattle.steps.specs.declared.asked.Step.TheVariants.{Send, Lose}
use Rattle.table.specs.declared.stepped.Stepped.{Stepped}
use Rattle.table.specs.declared.table.Table.{Table}
use Rattle.ground.specs.declared.told.Told.{Told}
use Rattle.pool.specs.Pool.{most_places}
use Rattle.table.specs.Table.{station_at}
use Rattle.table.specs.Sound.{table_sound}
use Rattle.steps.specs.Steps.{step_of}
use Rattle.table.proofs.Puts.{seat_of_lem}
use Rattle.table.proofs.Tables.{table_parts}
use Rattle.pool.specs.Lent.{send_in_told, send_in_pool, lose_in_told, lose_in_pool}

-- a step of the table, and what a lent step told and left
pub record LentAs (x : Stepped) (told : Told) (places : List Place) : Type 0 where
  pub answer : x.answer ≡ told.answer
  pub result : x.result ≡ told.result
  pub pool : x.table.pool ≡ places

module _ (t : Table) (sound : table_sound t ≡ true) (full : length t.pool ≡ most_places) where
  pub lose_lent : (p : ℕ) → LentAs (step_of t (Lose p)) (lose_in_told t.pool p) (lose_in_pool t.pool p)
  unfolding step_of
  lose_lent p = grind arith

  pub send_lent : (from to : ℕ) → from < t.count → show_answer (station_at t from) to ≡ 0
      → LentAs (step_of t (Send from to)) (send_in_told t.pool) (send_in_pool t.pool (message_for (station_at t from) to))
  unfolding step_of
  send_lent from to h a =
      let seat = seat_of_lem (table_parts t sound) from h in
      let peer = shown (station_at t from) to a in
      let below : ltb to t.count ≡ true = lt-ltb to t.count (omega (arith, peer.below, seat.count)) in
      let other : eqb from to ≡ false = ne_eqb from to (λ f. peer.other (sym f ∙ sym seat.number)) in
      rw (sound, eq-eqb _ _ full, lt-ltb _ _ h, below, other) (grind arith)
