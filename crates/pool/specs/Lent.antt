-- What the steps on a lent pool tell, and the pool that they leave.
use Rattle.std.specs.Prelude.{ℕ, not, ◌≡◌, List, [], ◌∷◌, eqb, ltb, length, set, Some, None}
use Rattle.ground.specs.Answers.{not_sound, pool_full, no_such_place, empty_place}
use Rattle.ground.specs.Refusals.{Refusal, when, answer_of}
use Rattle.ground.specs.Choice.{if_done}
use Rattle.ground.specs.Told.{told_with}
use Rattle.ground.specs.declared.told.Told.{Told}
use Rattle.rules.specs.declared.message.Message.{Message}
use Rattle.pool.specs.Pool.{most_places, place_in, is_empty, lowest_empty}
use Rattle.pool.specs.declared.lent.Pooled.{Pooled}
use Rattle.pool.specs.declared.places.Place.{Place}

-- a place that holds no message, and one that holds m
abbrev pub cleared : Place
cleared = record { waiting = None }

abbrev pub holding : Message → Place
holding m = record { waiting = Some m }

abbrev pub send_in_refusals : List Place → List Refusal
send_in_refusals pool = when (not (eqb (length pool) most_places)) not_sound ∷ when (not (ltb (lowest_empty pool) most_places)) pool_full ∷ []

abbrev pub send_in_answer : List Place → ℕ
send_in_answer pool = answer_of (send_in_refusals pool)

-- the result is the place
abbrev pub send_in_told : List Place → Told
send_in_told pool = told_with (send_in_answer pool) (lowest_empty pool)

-- a refusal leaves the pool as it is
abbrev pub send_in_pool : List Place → Message → List Place
send_in_pool pool m = if_done (send_in_answer pool) (set pool (lowest_empty pool) (holding m)) pool

abbrev pub lose_in_refusals : List Place → ℕ → List Refusal
lose_in_refusals pool p =
    when (not (eqb (length pool) most_places)) not_sound
    ∷ when (not (ltb p most_places)) no_such_place
    ∷ when (is_empty (place_in pool p)) empty_place
    ∷ []

abbrev pub lose_in_answer : List Place → ℕ → ℕ
lose_in_answer pool p = answer_of (lose_in_refusals pool p)

abbrev pub lose_in_told : List Place → ℕ → Told
lose_in_told pool p = told_with (lose_in_answer pool p) 0

abbrev pub lose_in_pool : List Place → ℕ → List Place
lose_in_pool pool p = if_done (lose_in_answer pool p) (set pool p cleared) pool

-- what the two promise: on a pool that is lent, and by value
abbrev pub SendsIn : List Place → Message → Told → List Place → Type 0
SendsIn pool m r later = (r ≡ send_in_told pool) × (later ≡ send_in_pool pool m)

abbrev pub LosesIn : List Place → ℕ → Told → List Place → Type 0
LosesIn pool p r later = (r ≡ lose_in_told pool p) × (later ≡ lose_in_pool pool p)

abbrev pub sent_value : List Place → Message → Pooled
sent_value pool m = record { told = send_in_told pool; pool = send_in_pool pool m }

abbrev pub lost_value : List Place → ℕ → Pooled
lost_value pool p = record { told = lose_in_told pool p; pool = lose_in_pool pool p }
