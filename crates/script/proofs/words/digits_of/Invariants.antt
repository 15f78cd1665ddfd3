use Rattle.std.proofs.Common.{◌≡◌, ◌<◌, ◌^◌, drop}
use Rattle.script.specs.Parts.{digits_of}
use Rattle.script.proofs.words.digits_of.Given as goal

abbrev pub invariant-loop-b : goal.invariant-loop-b
invariant-loop-b l = record { same : digits_of l.sofar (drop l.b-index l.word) ≡ digits_of 0 l.word; small : l.sofar < 10 ^ l.b-index }
