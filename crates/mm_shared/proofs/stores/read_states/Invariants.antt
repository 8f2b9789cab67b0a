use Rattle.mm_shared.proofs.Words.{◌≡◌, ℕ, ◌<◌, IsState, states_of, stores_in, opening_at}
use Rattle.mm_shared.proofs.stores.read_states.Given as goal

abbrev pub invariant-loop-store : goal.invariant-loop-store
invariant-loop-store l = record {
  same : l.opened ≡ l.initial.opened;
  sound : (k : ℕ) → k < l.store → IsState (opening_at (states_of (stores_in l.initial.opened)) k);
}
