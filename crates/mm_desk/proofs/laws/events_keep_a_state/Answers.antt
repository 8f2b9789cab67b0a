use Rattle.mm_desk.proofs.Keeping.{event_keeps, log_keeps}
use Rattle.mm_desk.proofs.laws.events_keep_a_state.Goals as goal

pub returns-clause-event : goal.returns-clause-event
returns-clause-event c =
    λ s e sound fits. event_keeps c.events_keep_the_balance.ensures.law c.stores_stay_stores.ensures.put
    c.stores_stay_stores.ensures.delete_up_to s sound e fits

pub returns-clause-log : goal.returns-clause-log
returns-clause-log c =
    λ s log sound fits. log_keeps c.events_keep_the_balance.ensures.law c.stores_stay_stores.ensures.put
    c.stores_stay_stores.ensures.delete_up_to s log sound fits
