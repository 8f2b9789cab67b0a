use Rattle.std.proofs.Common.{◌≡◌, ℕ, ◌<◌, ◌≤◌}
use Rattle.mm_overlap.specs.Given.{IsFree}
use Rattle.mm_overlap.proofs.given.is_free.Given as goal

abbrev pub invariant-loop-i : goal.invariant-loop-i
invariant-loop-i l = IsFree l.passes l.numbers l.i l.transmitter l.time
