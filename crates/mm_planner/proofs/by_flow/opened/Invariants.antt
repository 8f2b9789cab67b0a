use Rattle.mm_planner.specs.Opening.{AreOpened}
use Rattle.mm_planner.proofs.by_flow.opened.Given as goal

abbrev pub invariant-loop-store : goal.invariant-loop-store
invariant-loop-store l = AreOpened l.store l.problem l.solved l.cuts.items
