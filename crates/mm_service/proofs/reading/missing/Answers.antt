use Rattle.mm_service.proofs.Words.{sym}
use Rattle.mm_service.proofs.GiveLemmas.{missing-known, missing-refused}
use Rattle.mm_service.proofs.reading.missing.Goals as goal

pub returns-in-Ok : goal.returns-in-Ok
returns-in-Ok c = sym (missing-known c.args.text.now _ (sym c.in-Ok.ensures))

pub returns-in-Err : goal.returns-in-Err
returns-in-Err c = sym (missing-refused c.args.text.now _ (sym c.in-Err.ensures))
