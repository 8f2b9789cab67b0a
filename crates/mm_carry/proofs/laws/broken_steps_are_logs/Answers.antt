use Rattle.mm_carry.proofs.Halts.{one_log}
use Rattle.mm_carry.proofs.laws.broken_steps_are_logs.Goals as goal

pub returns : goal.returns
returns g c = record { logs = one_log g.L.Link.sent g.L.Link.failed }
