use Rattle.mm_rest.proofs.HaltReads.{rest_given}
use Rattle.mm_rest.proofs.halt.rest_with.Goals as goal

pub returns-in-Ok-clause-rest : goal.returns-in-Ok-clause-rest
returns-in-Ok-clause-rest c = (rest_given _ _ _ _ c.in-Ok.ensures.rest).0

pub returns-in-Ok-clause-fit : goal.returns-in-Ok-clause-fit
returns-in-Ok-clause-fit c = (rest_given _ _ _ _ c.in-Ok.ensures.rest).1
