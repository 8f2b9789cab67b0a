use Rattle.mm_carry.proofs.GoingOn.{follow, halted_go_on, halted_have_rests}
use Rattle.mm_carry.proofs.laws.halted_runs_go_on.Goals as goal

pub returns : goal.returns
returns g c = record {
  on = halted_go_on g.L.Link.sent g.L.Link.failed c.broken_orders_change_nothing.ensures.law;
  rests = halted_have_rests g.L.Link.sent g.L.Link.failed c.broken_orders_change_nothing.ensures.law;
  follow = follow;
}
