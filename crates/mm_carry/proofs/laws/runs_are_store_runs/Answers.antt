use Rattle.mm_carry.proofs.StoreRuns.{steps_are, halted_is}
use Rattle.mm_carry.proofs.laws.runs_are_store_runs.Goals as goal

pub returns : goal.returns
returns g c = record {
  steps = steps_are g.L.Link.sent g.L.Link.failed;
  halted = halted_is g.L.Link.sent g.L.Link.failed c.broken_orders_change_nothing.ensures.law;
}
