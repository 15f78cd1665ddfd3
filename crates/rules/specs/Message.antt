-- A message that shows nothing: every number 0 and nothing held.
use Rattle.std.specs.Prelude.{None}
use Rattle.rules.specs.declared.message.Message.{Message}

abbrev pub no_message : Message
no_message = record { from = 0; to = 0; value = 0; source = record { 0 = 0 }; destination = record { 0 = 0 }; slot = None; token = None }
