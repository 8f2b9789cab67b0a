use Rattle.mm_carry.proofs.Stepping.{as_planned, all_lost}
use Rattle.mm_carry.proofs.Words.{length}
use Rattle.mm_carry.proofs.laws.runs_lose_as_planned.Goals as goal

pub returns-clause-each : goal.returns-clause-each
returns-clause-each c = as_planned c.events_keep_a_state.ensures.log

pub returns-clause-total : goal.returns-clause-total
returns-clause-total c = λ q x offers gave states is.
    all_lost q x states
    (as_planned c.events_keep_a_state.ensures.log q x (length q.windows) offers gave states is)
