use Rattle.mm_service.proofs.Words.{◌≡◌, ◌++◌, take, drop, map, code_of_answer}
use Rattle.mm_service.proofs.answers.tell_answers.Given as goal

-- the codes of the answers so far are at the head
abbrev pub invariant-loop-index : goal.invariant-loop-index
invariant-loop-index l = l.out ≡ map code_of_answer (take l.index l.answers) ++ drop l.index l.initial.out
