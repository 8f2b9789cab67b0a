use Rattle.std.proofs.Common.{◌≡◌, length}
use Rattle.work_steps.proofs.sources.burst.Given as goal

abbrev pub invariant-loop : goal.invariant-loop
invariant-loop l = length l.burst.items ≡ l.counter
