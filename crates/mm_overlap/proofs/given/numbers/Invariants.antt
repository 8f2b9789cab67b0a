use Rattle.std.proofs.Common.{◌≡◌, ℕ, ◌<◌, ◌≤◌, length}
use Rattle.mm_overlap.specs.Given.{transmitter, IsGiven}
use Rattle.mm_overlap.proofs.given.numbers.Given as goal

abbrev pub invariant-loop-pass : goal.invariant-loop-pass
invariant-loop-pass l = record {
  as_many : length l.numbers.items ≡ l.pass-index;
  below : (i : ℕ) → i < l.pass-index → transmitter l.numbers.items i ≤ i;
  given : (i : ℕ) → i < l.pass-index → IsGiven l.passes l.numbers.items i;
}
