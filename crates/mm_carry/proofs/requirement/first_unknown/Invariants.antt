use Rattle.mm_carry.proofs.Words.{take, NoneUnknown}
use Rattle.mm_carry.proofs.requirement.first_unknown.Given as goal

abbrev pub invariant-loop-held : goal.invariant-loop-held
invariant-loop-held l = NoneUnknown l.problem (take l.held-index l.stores)
