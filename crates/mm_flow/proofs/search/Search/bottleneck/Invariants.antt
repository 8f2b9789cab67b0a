use Rattle.std.proofs.Common.{ℕ, ◌≤◌}
use Rattle.mm_flow.specs.declared.limits.TheConstants.{UNLIMITED}
use Rattle.mm_flow.specs.Marks.{level}
use Rattle.mm_flow.specs.Levels.{Carries}
use Rattle.mm_flow.proofs.search.Search.bottleneck.Given as goal

abbrev pub invariant-loop-at : goal.invariant-loop-at
invariant-loop-at l = record {
  within : l.least ≤ UNLIMITED;
  fits : (amount : ℕ) → amount ≤ l.least → Carries l.residual l.self amount l.at → Carries l.residual l.self amount l.sink;
  greatest : (amount : ℕ) → amount ≤ UNLIMITED → Carries l.residual l.self amount l.sink
      → (amount ≤ l.least) × Carries l.residual l.self amount l.at;
}

abbrev pub decreases-loop-at : goal.decreases-loop-at
decreases-loop-at l = level l.self.marks.items l.at
