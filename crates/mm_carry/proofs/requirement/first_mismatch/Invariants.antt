use Rattle.mm_carry.proofs.Words.{◌≡◌, ◌<◌, ℕ, true, meets_at}
use Rattle.mm_carry.proofs.requirement.first_mismatch.Given as goal

abbrev pub invariant-loop-store : goal.invariant-loop-store
invariant-loop-store l = (s : ℕ) → s < l.store → meets_at l.requirement l.problem l.stores s ≡ true
