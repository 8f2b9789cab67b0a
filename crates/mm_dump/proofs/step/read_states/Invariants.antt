use Rattle.mm_dump.proofs.Words.{All, take, Held, IsState}
use Rattle.mm_dump.proofs.step.read_states.Given as goal

abbrev pub invariant-loop-held : goal.invariant-loop-held
invariant-loop-held l = All (λ (h : Held). IsState h.state) (take l.held-index l.stores)
