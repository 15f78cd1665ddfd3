-- The pool: 64 places, each empty or holding one message.
use Rattle.std.specs.Prelude.{ℕ, Bool, true, false, List, get_or, Option, Some, None}
use Rattle.rules.specs.declared.message.Message.{Message}
use Rattle.ground.specs.First.{first_from}
use Rattle.pool.specs.declared.places.Place.{Place}

abbrev pub most_places : ℕ
most_places = 64

abbrev pub place_in : List Place → ℕ → Option Message
place_in pool p = (get_or pool p (record { waiting = None })).waiting

abbrev pub is_empty : Option Message → Bool
is_empty None = true
is_empty (Some m) = false

-- the lowest-numbered empty place, or 64 where all are taken
abbrev pub lowest_empty : List Place → ℕ
lowest_empty pool = first_from (λ p. is_empty (place_in pool p)) most_places 0
