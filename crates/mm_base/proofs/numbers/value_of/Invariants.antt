use Rattle.std.proofs.Common.{◌≡◌, ◌≤◌, drop}
use Rattle.mm_base.specs.Numbers.{value_after}
use Rattle.mm_base.proofs.numbers.value_of.Given as goal

abbrev pub invariant-loop-digit : goal.invariant-loop-digit
invariant-loop-digit l = record {
  within : l.number ≤ l.most;
  left : value_after l.number (drop l.digit-index l.digits) ≡ value_after 0 l.digits;
}
