use Rattle.std.proofs.Common.{◌≡◌, length, drop}
use Rattle.mm_blocks.specs.Check.{remainder_from}
use Rattle.mm_blocks.proofs.check.after.Given as goal

-- what is left takes the register to the remainder of all
abbrev pub invariant-eights : goal.invariant-eights
invariant-eights l = remainder_from l.register l.rest ≡ remainder_from l.fn.register l.fn.octets

abbrev pub decreases-eights : goal.decreases-eights
decreases-eights l = length l.rest

abbrev pub invariant-loop-octet : goal.invariant-loop-octet
invariant-loop-octet l = remainder_from l.register (drop l.octet-index l.octet-items) ≡ remainder_from l.fn.register l.fn.octets
