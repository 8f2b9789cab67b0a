use Rattle.std.proofs.Common.{◌≡◌, ℕ, ◌+◌, ◌<◌, ◌≤◌, max}
use Rattle.std.specs.Prelude.{◌⊎◌}
use Rattle.mm_overlap.specs.Given.{transmitter}
use Rattle.mm_overlap.proofs.given.count.Given as goal

abbrev pub invariant-loop-number : goal.invariant-loop-number
invariant-loop-number l = record {
  some : 1 ≤ l.count;
  few : l.count ≤ max 1 l.number-index;
  each : (i : ℕ) → i < l.number-index → transmitter l.numbers i < l.count;
  last : (l.count ≡ 1) ⊎ ((i : ℕ) × (i < l.number-index) × (transmitter l.numbers i + 1 ≡ l.count));
}
