use Rattle.mm_carry.proofs.Words.{is_some, limit, ◌≡◌, ◌<◌, ℕ, false}
use Rattle.mm_carry.proofs.readiness.has_limit.Given as goal

abbrev pub invariant-loop-channel : goal.invariant-loop-channel
invariant-loop-channel l = (c : ℕ) → c < l.channel → is_some (limit l.problem c 1) ≡ false
