use Rattle.mm_c.proofs.Words.{◌≡◌, ℕ, ◌<◌, ◌≤◌, length, get_or, MAX_STORES, amount, store_loss}
use Rattle.mm_c.proofs.losses.LossesTold.of.Given as goal

abbrev pub invariant-loop-store : goal.invariant-loop-store
invariant-loop-store l = record {
  places : length l.by_store ≡ MAX_STORES;
  lost : (s : ℕ) → s < l.store → get_or l.by_store s 0 ≡ store_loss l.problem (amount l.plan) s;
  rest : (s : ℕ) → l.store ≤ s → s < MAX_STORES → get_or l.by_store s 0 ≡ 0;
}
