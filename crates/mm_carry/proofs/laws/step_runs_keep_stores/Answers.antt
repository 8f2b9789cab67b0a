use Rattle.mm_carry.proofs.Stepping.{keeps_store}
use Rattle.mm_carry.proofs.laws.step_runs_keep_stores.Goals as goal

pub returns : goal.returns
returns c = record { law = keeps_store c.events_keep_a_state.ensures.log }
