use Rattle.mm_service.proofs.Words.{refl, sym, ap, ◌∙◌, Ok, false≢true}
use Rattle.mm_service.proofs.GiveLemmas.{is_tested, is_refused}
use Rattle.mm_service.proofs.reading.id_of.Goals as goal

pub returns-in-Ok : goal.returns-in-Ok
returns-in-Ok c = ap Ok c.in-Ok.ensures.id ∙ sym (is_tested c.args.text.now (c.in-Ok.ensures.found.0 refl))

pub returns-in-Err : goal.returns-in-Err
returns-in-Err c = sym (is_refused c.args.text.now (λ h. absurd (false≢true (c.in-Err.ensures.found.1 h))))
