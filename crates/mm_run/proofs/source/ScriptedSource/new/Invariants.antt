use Rattle.std.proofs.Common.{◌≡◌, ℕ, [], length, get_or}
use Rattle.mm_run.proofs.source.ScriptedSource.new.Given as goal

abbrev pub invariant-loop : goal.invariant-loop
invariant-loop l = record {
  count : length l.steps.items ≡ l.counter;
  none : (t : ℕ) → get_or l.steps.items t [] ≡ [];
}
