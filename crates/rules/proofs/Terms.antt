-- What is held on the terms of what is held is that itself, of a slot and of a token. Assumes
-- nothing.
use mathlib.Core.Path.{◌≡◌, refl}
use Rattle.rules.specs.declared.held.Slot.{Slot}
use Rattle.rules.specs.declared.held.Token.{Token}
use Rattle.rules.specs.declared.held.Terms.{Terms}
use Rattle.rules.specs.Terms.{slot_terms, slot_on, token_terms, token_on}

pub slot_on_terms : (l : Slot) → slot_on (slot_terms l) ≡ l
slot_on_terms l = refl

pub token_on_terms : (t : Token) → token_on (token_terms t) ≡ t
token_on_terms t = refl

-- and the terms are all that is held
pub slot_terms_on : (n : Terms) → slot_terms (slot_on n) ≡ n
slot_terms_on n = refl

pub token_terms_on : (n : Terms) → token_terms (token_on n) ≡ n
token_terms_on n = refl
