-- What of a table a step looks at. An index that is too large is looked up as 0: the step is then
-- refused, whatever stands there.
use Rattle.std.specs.Prelude.{ℕ, Bool, true, false, not, cond, List, map, ltb, get_or, Option, Some, None}
use Rattle.steps.specs.declared.asked.Step.{Step}
use Rattle.rules.specs.declared.message.Message.{Message}
use Rattle.ground.specs.Limits.{most_stations}
use Rattle.steps.specs.declared.looking.Looked.{Looked}
use Rattle.pool.specs.declared.places.Place.{Place}
use Rattle.steps.specs.declared.asked.Step.TheVariants.{Add, Draw, Send, Deliver, Lose}
use Rattle.pool.specs.Pool.{most_places}
use Rattle.ground.specs.First.{first_from}

-- a number, or 0 where it is not below a limit
abbrev pub below : ℕ → ℕ → ℕ
below n limit = cond (ltb n limit) n 0

-- the place, and 0 where none is looked at
abbrev pub place_looked_at : Option Step → ℕ
place_looked_at None = 0
place_looked_at (Some (Add k amount)) = 0
place_looked_at (Some (Draw k amount)) = 0
place_looked_at (Some (Send from to)) = 0
place_looked_at (Some (Deliver p)) = p
place_looked_at (Some (Lose p)) = p

-- a station and a peer of it
abbrev pub looked_at : ℕ → ℕ → Looked
looked_at station peer = record { station = below station most_stations; peer = below peer most_stations }

-- the ends of the message that waits
abbrev pub ends_of : Option Message → Looked
ends_of None = looked_at 0 0
ends_of (Some m) = looked_at m.to m.from

-- for what waits at the place that is looked at
abbrev pub seat_looked_at : Option Step → Option Message → Looked
seat_looked_at None w = looked_at 0 0
seat_looked_at (Some (Add k amount)) w = looked_at k 0
seat_looked_at (Some (Draw k amount)) w = looked_at k 0
seat_looked_at (Some (Send from to)) w = looked_at from to
seat_looked_at (Some (Deliver p)) w = ends_of w
seat_looked_at (Some (Lose p)) w = looked_at 0 0

-- which places are taken: where a message waits
abbrev pub flag_of : Option Message → Bool
flag_of None = false
flag_of (Some m) = true

abbrev pub flags_of : List Place → List Bool
flags_of pool = map (λ (p : Place). flag_of p.waiting) pool

-- the lowest-numbered place that is not taken, or 64
abbrev pub lowest_zero : List Bool → ℕ
lowest_zero taken = first_from (λ p. not (get_or taken p false)) most_places 0

-- only a send has it searched
abbrev pub free_for : Option Step → List Bool → ℕ
free_for None taken = most_places
free_for (Some (Add k amount)) taken = most_places
free_for (Some (Draw k amount)) taken = most_places
free_for (Some (Send from to)) taken = lowest_zero taken
free_for (Some (Deliver p)) taken = most_places
free_for (Some (Lose p)) taken = most_places
