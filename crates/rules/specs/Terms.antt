-- The terms that a slot and a token are held on, and what is held on given terms: both clocks and
-- the quantity, each as it is.
use Rattle.rules.specs.declared.held.Slot.{Slot}
use Rattle.rules.specs.declared.held.Terms.{Terms}
use Rattle.rules.specs.declared.held.Token.{Token}

abbrev pub slot_terms : Slot → Terms
slot_terms l = record { source = l.source; destination = l.destination; quantity = l.quantity }

abbrev pub slot_on : Terms → Slot
slot_on n = record { source = n.source; destination = n.destination; quantity = n.quantity }

abbrev pub token_terms : Token → Terms
token_terms t = record { source = t.source; destination = t.destination; quantity = t.quantity }

abbrev pub token_on : Terms → Token
token_on n = record { source = n.source; destination = n.destination; quantity = n.quantity }
