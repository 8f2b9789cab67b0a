use Rattle.mm_service.proofs.Words.{◌≡◌, ◌++◌, take, drop, map, spaced}
use Rattle.mm_service.proofs.instruction_fields.padded.Given as goal

-- the octets so far are padded
abbrev pub invariant-loop-index : goal.invariant-loop-index
invariant-loop-index l = l.field ≡ map spaced (take l.index l.id) ++ drop l.index l.id
