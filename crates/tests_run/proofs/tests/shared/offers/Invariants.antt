use Rattle.std.proofs.Common.{◌≡◌}
use Rattle.tests_run.proofs.tests.shared.offers.Given as goal

abbrev pub invariant-loop : goal.invariant-loop
invariant-loop g l = (l.port.of ≡ l.initial.port.of) × (l.port.number ≡ l.initial.port.number)
