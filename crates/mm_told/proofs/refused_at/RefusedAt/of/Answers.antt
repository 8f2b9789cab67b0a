-- What is told is read back.
use Rattle.std.proofs.Common.{ap, ◌∙◌}
use Rattle.mm_told.proofs.ReadBack.{reason_read_back}
use Rattle.mm_told.specs.RefusedAts.{reason_told}
use Rattle.mm_told.proofs.refused_at.RefusedAt.of.Goals as goal

pub returns-clause-read_back : goal.returns-clause-read_back
returns-clause-read_back c = ap reason_told c.told_of.ensures ∙ reason_read_back c.args.reason
