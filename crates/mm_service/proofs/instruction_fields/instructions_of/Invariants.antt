use Rattle.mm_service.proofs.Words.{◌≡◌, take, map}
use Rattle.mm_service.proofs.instruction_fields.instructions_of.Given as goal

-- the instructions of the fields so far
abbrev pub invariant-loop-each : goal.invariant-loop-each
invariant-loop-each g l = l.entries.items ≡ map g.I.OfFields.made_of (take l.each-index l.fields)
