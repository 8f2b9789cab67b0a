-- A store's state that is put back as it was leaves the memory as it was.
use Rattle.mm_memory.proofs.Words.{◌≡◌, ℕ, List, refl, sym, ap, ◌∙◌, slice_get, Option, Some, None, AllPairs}
use Rattle.mm_memory.proofs.Words.{MatchOption, option_map, set, set-get_or, get_or_from_slice_get, none-some}
use Rattle.mm_memory.proofs.Words.{same_Some, RouteRow, Held, State, Holdings, HaveOtherIds, StandsAt, store_of}
use Rattle.mm_memory.proofs.Words.{with_state, stands_at_first, with_changed-stands}

module _ (id : List ℕ) (stores : List Held) (routes : List RouteRow) (named : AllPairs HaveOtherIds stores) where
  abbrev memory : Holdings
  memory = record { stores = stores; routes = routes }

  -- the store that is found, with the state that it has, is put back in its place
  put_back : (h : Held) (place : Option ℕ) → store_of id stores ≡ Some h
      → MatchOption place (store_of id stores ≡ None) (StandsAt id stores) → with_state id memory h.state ≡ memory
  put_back h None found none = absurd (none-some h (sym none ∙ found))
  put_back h (Some place) found stands =
      let at : slice_get stores place ≡ Some h = sym stands.store ∙ found in
      let written = with_changed-stands id (λ x. record x { state = h.state }) stores place h named stands at in
      let same = ap (set stores place) (sym (get_or_from_slice_get stores place h h at)) ∙ set-get_or stores place h in
      ap (λ (all : List Held). let m : Holdings = record { stores = all; routes = routes } in m) (written ∙ same)

  -- the state that a store with this identifier has
  state_found : (found : Option Held) (s : State) → option_map (λ (h : Held). h.state) found ≡ Some s
      → (h : Held) × (found ≡ Some h) × (h.state ≡ s)
  state_found None s e = absurd (none-some s e)
  state_found (Some h) s e = (h, refl, same_Some h.state s e)

  -- a memory, with the state that a store has, is as it was
  pub with_state-same : (s : State) → option_map (λ (h : Held). h.state) (store_of id stores) ≡ Some s
      → with_state id memory s ≡ memory
  with_state-same s found =
      let got = state_found (store_of id stores) s found in
      ap (with_state id memory) (sym got.2) ∙ put_back got.0 _ got.1 (stands_at_first id stores _ refl)
