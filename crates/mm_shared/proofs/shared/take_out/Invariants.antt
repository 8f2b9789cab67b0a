use Rattle.mm_shared.proofs.Words.{◌≡◌, ◌<◌, ◌≤◌, ℕ, false, length, take, IsTrue, slice_index_or, IsState, held_stores}
use Rattle.mm_shared.proofs.Words.{slots_items, slots_len, slots_filled}
use Rattle.std.proofs.Common.{All, vec_capacity}
use Rattle.mm_shared.proofs.shared.take_out.Given as goal

abbrev pub invariant-loop-k : goal.invariant-loop-k
invariant-loop-k l = record {
  items : slots_items l.closed.slots ≡ slots_items l.initial.closed.slots;
  many : slots_len l.closed.slots ≡ length l.labels;
  full : (j : ℕ) → l.k ≤ j → j < length l.labels → IsTrue (slice_index_or (slots_filled l.closed.slots) j false);
  taken : (j : ℕ) → j < l.k → slice_index_or (slots_filled l.closed.slots) j false ≡ false;
  count : length l.stores.items ≡ l.k;
  same : l.stores.items ≡ held_stores (take l.k l.labels) (take l.k (slots_items l.initial.closed.slots));
  sound : All (λ h. IsState h.state) l.stores.items;
  room : vec_capacity l.stores ≡ vec_capacity l.initial.stores;
}
