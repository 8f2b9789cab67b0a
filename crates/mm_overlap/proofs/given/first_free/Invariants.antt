use Rattle.std.proofs.Common.{ℕ, ◌<◌, length}
use Rattle.mm_overlap.specs.Given.{IsFree}
use Rattle.mm_overlap.proofs.given.first_free.Given as goal

abbrev pub invariant-loop-transmitter : goal.invariant-loop-transmitter
invariant-loop-transmitter l = (k : ℕ) → k < l.transmitter → IsFree l.passes l.numbers (length l.numbers) k l.time → ⊥
