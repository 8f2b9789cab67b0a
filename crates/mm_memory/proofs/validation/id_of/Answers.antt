use Rattle.mm_memory.proofs.Words.{refl, false≢true, is_id-field, is_id-other}
use Rattle.mm_memory.proofs.validation.id_of.Goals as goal

pub returns-in-Ok-clause-found : goal.returns-in-Ok-clause-found
returns-in-Ok-clause-found c = is_id-field c.args.octets (c.in-Ok.ensures.found.0 refl)

pub returns-in-Err-clause-found : goal.returns-in-Err-clause-found
returns-in-Err-clause-found c = is_id-other c.args.octets (λ h. absurd (false≢true (c.in-Err.ensures.found.1 h)))
