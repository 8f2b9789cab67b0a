use Rattle.std.proofs.Common.{◌≡◌}
use Rattle.tests_run.proofs.tests.shared.asks.Given as goal

abbrev pub invariant-loop-row : goal.invariant-loop-row
invariant-loop-row g l = (l.port.of ≡ l.initial.port.of) × (l.port.number ≡ l.initial.port.number)
