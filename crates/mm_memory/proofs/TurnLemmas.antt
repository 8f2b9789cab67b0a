-- What a turn leaves of the store with an identifier.
use Rattle.mm_memory.proofs.Words.{◌≡◌, ◌⊎◌, inl, inr, ℕ, Bool, true, false, cond, not, ◌&&◌, List, [], ◌∷◌, ◌++◌, refl}
use Rattle.mm_memory.proofs.Words.{sym, ap, subst, ◌∙◌, if◌then◌else◌, bytes_eq, Option, Some, None, Ok, Err, is_some}
use Rattle.mm_memory.proofs.Words.{option_map, none-some, RouteRow, SpacePacket, without_store, Event, StateFault, Held}
use Rattle.mm_memory.proofs.Words.{Retrieval, after, State, offer, step, rest_fault, resize_fault, Action, Delete}
use Rattle.mm_memory.proofs.Words.{Changes, Outcome, refusal_of, done_or, act, without, MayLack, Applies, Holdings}
use Rattle.mm_memory.proofs.Words.{has_id, store_of, state_of, with_changed, Parsed, with_state, is_routed, packet_for}
use Rattle.mm_memory.proofs.Words.{after_offer, after_offers, same_id, is_itself, found_id, cond_both}
use Rattle.mm_desk.specs.declared.fault.Fault.TheVariants.{Busy, StorageOn}
use Rattle.mm_memory.specs.declared.instruction.Action.TheVariants.{Create, Route}
use Rattle.mm_memory.specs.declared.instruction.Instruction.{Instruction}
use Rattle.mm_memory.specs.declared.instruction.RouteChange.{RouteChange}
use Rattle.mm_memory.specs.declared.instruction.RouteChange.TheVariants.{Add, Delete as DeleteRow}
use Rattle.mm_memory.specs.declared.instruction.StoreChange.{StoreChange}
use Rattle.mm_memory.specs.declared.instruction.StoreChange.TheVariants.{Enable, Disable, Begin, Abort, DeleteContent}
use Rattle.mm_memory.specs.declared.instruction.StoreChange.TheVariants.{Resize, SetKind, SetChannel}
use Rattle.mm_memory.specs.Accounts.{Call, records, asks, applies, MayLeave, events_of, events_in, removes, removes_in}
use Rattle.mm_memory.specs.Applying.{new_store, for_store, on_store, on_no_store, routed, route_to, apply}
use Rattle.mm_memory.proofs.Words.{false≢true}
use Rattle.mm_memory.proofs.ApplyLemmas.{neither}
use Rattle.mm_memory.proofs.RecordLemmas.{id_kept}
use Rattle.mm_desk.specs.declared.event.Event.TheVariants as event

-- one store more before those that are searched
abbrev searched : List ℕ → Held → Option Held → Option Held
searched id h rest = cond (has_id id h) (Some h) rest

-- a store with this identifier has not another one
differs : (k id : List ℕ) → bytes_eq k id ≡ false → (h : Held) → h.id ≡ k → has_id id h ≡ false
differs k id other h same = rw same other

module _ (k : List ℕ) (change : Held → Held) (keeps : (h : Held) → has_id k h ≡ true → (change h).id ≡ k) where
  -- the store that is changed
  changed_own : (stores : List Held) → store_of k (with_changed k change stores) ≡ option_map change (store_of k stores)
  changed_own [] = refl
  changed_own (h ∷ hs) =
      cond_both (has_id k h) (change h) h
      (λ x. searched k x (store_of k (with_changed k change hs)) ≡ option_map change (searched k h (store_of k hs)))
      (λ same. rw (is_itself (change h).id k (keeps h same), same) refl) (λ other. rw other (changed_own hs))

  -- a store with another identifier
  changed_other : (id : List ℕ) → bytes_eq k id ≡ false → (stores : List Held)
      → store_of id (with_changed k change stores) ≡ store_of id stores
  changed_other id other [] = refl
  changed_other id other (h ∷ hs) =
      let rest = changed_other id other hs in
      cond_both (has_id k h) (change h) h
      (λ x. searched id x (store_of id (with_changed k change hs)) ≡ searched id h (store_of id hs))
      (λ e. rw (differs k id other (change h) (keeps h e), differs k id other h (same_id h.id k e)) rest)
      (λ e. ap (searched id h) rest)

-- a store that is taken out
without_own : (k : List ℕ) (stores : List Held) → store_of k (without k stores) ≡ None
without_own k [] = refl
without_own k (h ∷ hs) =
    let rest = without_own k hs in
    elim (has_id k h) as (λ b. has_id k h ≡ b → store_of k (if not b then h ∷ without k hs else without k hs) ≡ None) [
      | true ↦ λ e. rest
      | false ↦ λ e. rw e rest
    ] refl

without_other : (k id : List ℕ) → bytes_eq k id ≡ false → (stores : List Held)
    → store_of id (without k stores) ≡ store_of id stores
without_other k id other [] = refl
without_other k id other (h ∷ hs) =
    let rest = without_other k id other hs in
    elim (has_id k h) as (λ b. has_id k h ≡ b → store_of id (if not b then h ∷ without k hs else without k hs)
    ≡ store_of id (h ∷ hs)) [
      | true ↦ λ e. rw (differs k id other h (same_id h.id k e)) rest
      | false ↦ λ e. ap (searched id h) rest
    ] refl

-- a store that is created
pushed_own : (k : List ℕ) (new : Held) → new.id ≡ k → (stores : List Held) → store_of k stores ≡ None
    → store_of k (stores ++ new ∷ []) ≡ Some new
pushed_own k new same [] absent = rw (is_itself new.id k same) refl
pushed_own k new same (h ∷ hs) absent =
    let none = neither h (has_id k h) (store_of k hs) absent in
    rw none.0 (pushed_own k new same hs none.1)

pushed_other : (id : List ℕ) (new : Held) → bytes_eq new.id id ≡ false → (stores : List Held)
    → store_of id (stores ++ new ∷ []) ≡ store_of id stores
pushed_other id new other [] = rw other refl
pushed_other id new other (h ∷ hs) = ap (searched id h) (pushed_other id new other hs)

-- a state after an offer of a packet, where it is routed there
abbrev offered_if : Bool → ℕ → SpacePacket → State → State
offered_if b now p s = if b then (offer s now p).1 else s

abbrev state_in : Option Held → Option State
state_in found = option_map (λ h. h.state) found

module _ (now : ℕ) (routes : List RouteRow) (p : SpacePacket) (id : List ℕ) where
  one_state : (h : Held) (b : Bool)
      → (after_offer now h (if b then Some p else None)).state ≡ offered_if b now p h.state
  one_state h true = refl
  one_state h false = refl

  -- the store after a packet was recorded
  recorded_state : (stores : List Held)
      → state_in (store_of id (after_offers now (packet_for routes p) stores))
      ≡ option_map (offered_if (is_routed routes id p) now p) (state_in (store_of id stores))
  recorded_state [] = refl
  recorded_state (h ∷ hs) =
      let left = after_offer now h (packet_for routes p h) in
      let rest = recorded_state hs in
      let state_after = λ (x : List ℕ). offered_if (is_routed routes x p) now p in
      rw (id_kept now h (packet_for routes p h)) (elim (has_id id h) as (λ b. has_id id h ≡ b
      → state_in (cond b (Some left) (store_of id (after_offers now (packet_for routes p) hs)))
      ≡ option_map (state_after id) (state_in (cond b (Some h) (store_of id hs)))) [
        | true ↦ λ e. ap Some (one_state h (is_routed routes h.id p)
            ∙ ap (λ (x : List ℕ). state_after x h.state) (same_id h.id id e))
        | false ↦ λ e. rest
      ] refl)

-- a store at rest gets another size, kind or channel
pub record Reshaped (s t : State) (es : List Event) : Type 0 where
  pub asked : es ≡ []
  pub content : t.store.content ≡ s.store.content
  pub lost : t.lost ≡ s.lost
  pub at_rest : s.retrieval ≡ None
  pub still : t.retrieval ≡ None

-- a state is what the events leave, or another size, kind or channel of a store at rest
abbrev pub Follows : State → List Event → State → Type 0
Follows s es t = (t ≡ after s es) ⊎ Reshaped s t es

-- a new store
pub record IsNew (t : State) : Type 0 where
  pub content : t.store.content ≡ []
  pub lost : t.lost ≡ 0
  pub still : t.retrieval ≡ None

-- what becomes of a store, by what is asked of it
abbrev pub Becomes : List Event → (State → Bool) → Option State → Option State → Type 0
Becomes es gone (Some s) (Some t) = (gone s ≡ false) × Follows s es t
Becomes es gone (Some s) None = (gone s ≡ true) × (es ≡ [])
Becomes es gone None (Some t) = IsNew t
Becomes es gone None None = Unit {0}

-- nothing is asked, and the store stays
stays : (es : List Event) (gone : State → Bool) (before : Option State) → es ≡ [] → ((s : State) → gone s ≡ false)
    → Becomes es gone before before
stays es gone (Some s) none kept = (kept s, inl (ap (after s) (sym none)))
stays es gone None none kept = tt

-- a store at rest has no retrieval
no_retrieval : (r : Option Retrieval) → is_some r ≡ false → r ≡ None
no_retrieval (Some r) e = absurd cc
no_retrieval None e = refl

idle : (s : State) → rest_fault s ≡ None → s.retrieval ≡ None
idle s rests =
    no_retrieval s.retrieval (neither Busy (is_some s.retrieval) None (neither StorageOn s.storage _ rests).1).0

resizes_idle : (s : State) (size : ℕ) → resize_fault s size ≡ None → s.retrieval ≡ None
resizes_idle s size fits = by_rest (rest_fault s) refl fits
  where
    by_rest : (f : Option StateFault) → rest_fault s ≡ f → resize_fault s size ≡ None → s.retrieval ≡ None
    by_rest None rests fits = idle s rests
    by_rest (Some fault) busy fits = absurd (none-some fault (sym (rw busy at fits)))

-- what a change of a store at rest leaves, or its refusal
reshapes : (f : Option StateFault) (h left : Held) → (f ≡ None → h.state.retrieval ≡ None)
    → left.state.store.content ≡ h.state.store.content → left.state.lost ≡ h.state.lost
    → left.state.retrieval ≡ h.state.retrieval → Follows h.state [] (done_or (refusal_of f) left h).1.state
reshapes None h left rests content lost same =
    let still = rests refl in
    inr (record { asked = refl; content = content; lost = lost; at_rest = still; still = same ∙ still })
reshapes (Some fault) h left rests content lost same = inl refl

-- what a change leaves of a store
act_follows : (change : StoreChange) (h : Held) → Follows h.state (events_of (Changes change)) (act change h).1.state
act_follows (Resize size) h = reshapes (resize_fault h.state size) h _ (resizes_idle h.state size) refl refl refl
act_follows (SetKind kind) h = reshapes (rest_fault h.state) h _ (idle h.state) refl refl refl
act_follows (SetChannel channel) h = reshapes (rest_fault h.state) h _ (idle h.state) refl refl refl
act_follows other h = inl refl

-- a changed store keeps its identifier
done_id : (outcome : Outcome) (h changed : Held) → changed.id ≡ h.id → (done_or outcome changed h).1.id ≡ h.id
done_id (Ok done) h changed same = same
done_id (Err reason) h changed same = refl

act_id : (change : StoreChange) (h : Held) → (act change h).1.id ≡ h.id
act_id (Resize size) h = done_id (refusal_of (resize_fault h.state size)) h _ refl
act_id (SetKind kind) h = done_id (refusal_of (rest_fault h.state)) h _ refl
act_id (SetChannel channel) h = done_id (refusal_of (rest_fault h.state)) h _ refl
act_id other h = refl

module _ (k : List ℕ) (m : Holdings) where
  -- what is left of the store with the identifier, and of one with another
  abbrev Own : Action → Option Held → Holdings → Type 0
  Own action found n = Becomes (events_of action) (removes action) (state_in found) (state_of k n)

  abbrev Same : List ℕ → Holdings → Type 0
  Same id n = state_of id n ≡ state_of id m

  by_done : (P : Holdings → Type 0) (outcome : Outcome) (n : Holdings) → P n → P m → P (done_or outcome n m).1
  by_done P (Ok done) n new old = new
  by_done P (Err reason) n new old = old

  route_same : (P : Holdings → Type 0) → ((rows : List RouteRow) → P (record m { routes = rows }))
      → (change : RouteChange) (row : RouteRow) → P (routed change row m).1
  route_same P same Add row = by_done P _ _ (same _) (same m.routes)
  route_same P same DeleteRow row = by_done P _ _ (same _) (same m.routes)

  none_own : (action : Action) → store_of k m.stores ≡ None → Own action None m
  none_own action absent = rw absent tt

  absent_own : (action : Action) → store_of k m.stores ≡ None → Own action None (on_no_store k action m).1
  absent_own (Create config) absent =
      by_done (Own (Create config) None) _ (record m { stores = m.stores ++ new_store k config ∷ [] })
      (rw (pushed_own k (new_store k config) refl m.stores absent) (record {
        content = refl;
        lost = refl;
        still = refl;
      })) (none_own (Create config) absent)
  absent_own action absent = none_own action absent

  -- the store is as it was
  still_own : (action : Action) (h : Held) → events_of action ≡ [] → removes action h.state ≡ false
      → store_of k m.stores ≡ Some h → Own action (Some h) m
  still_own action h none kept found = rw found (kept, inl (ap (after h.state) (sym none)))

  delete_own : (h : Held) → store_of k m.stores ≡ Some h → (f : Option StateFault) → rest_fault h.state ≡ f
      → Own Delete (Some h)
      (done_or (refusal_of f) (record { stores = without k m.stores; routes = without_store k m.routes }) m).1
  delete_own h found None rests =
      rw (without_own k m.stores) (ap (λ (f : Option StateFault). not (is_some f)) rests, refl)
  delete_own h found (Some fault) busy =
      still_own Delete h refl (ap (λ (f : Option StateFault). not (is_some f)) busy) found

  -- what each change leaves keeps the identifier
  keeps_id : (change : StoreChange) (h x : Held) → store_of k m.stores ≡ Some h → has_id k x ≡ true
      → (act change h).1.id ≡ k
  keeps_id change h x found e = act_id change h ∙ found_id k m.stores h found

  store_own : (action : Action) (h : Held) → store_of k m.stores ≡ Some h
      → Own action (Some h) (on_store k action h m).1
  store_own Delete h found = delete_own h found (rest_fault h.state) refl
  store_own (Route change row) h found =
      route_same (Own (Route change row) (Some h)) (λ rows. still_own (Route change row) h refl refl found) change
      (route_to k row)
  store_own (Changes change) h found =
      let left : store_of k (with_changed k (λ _. (act change h).1) m.stores) ≡ Some (act change h).1 =
      changed_own k (λ _. (act change h).1) (λ x e. keeps_id change h x found e) m.stores
      ∙ ap (option_map (λ (x : Held). (act change h).1)) found in
      rw left (refl, act_follows change h)
  store_own action h found = still_own action h refl refl found

  own : (action : Action) (found : Option Held) → store_of k m.stores ≡ found
      → Own action found (for_store k action found m).1
  own action (Some h) e = store_own action h e
  own action None e = absent_own action e

  -- a store with another identifier stays as it was
  other_absent : (id : List ℕ) → bytes_eq k id ≡ false → (action : Action) → Same id (on_no_store k action m).1
  other_absent id other (Create config) =
      by_done (Same id) _ _ (ap state_in (pushed_other id (new_store k config) other m.stores)) refl
  other_absent id other action = refl

  other_store : (id : List ℕ) → bytes_eq k id ≡ false → (action : Action) (h : Held) → store_of k m.stores ≡ Some h
      → Same id (on_store k action h m).1
  other_store id other Delete h found =
      by_done (Same id) (refusal_of (rest_fault h.state)) _ (ap state_in (without_other k id other m.stores)) refl
  other_store id other (Route change row) h found = route_same (Same id) (λ rows. refl) change (route_to k row)
  other_store id other (Changes change) h found =
      ap state_in (changed_other k (λ _. (act change h).1) (λ x e. keeps_id change h x found e) id other m.stores)
  other_store id other action h found = refl

  other_same : (id : List ℕ) → bytes_eq k id ≡ false → (action : Action) (found : Option Held)
      → store_of k m.stores ≡ found → Same id (for_store k action found m).1
  other_same id other action (Some h) e = other_store id other action h e
  other_same id other action None e = other_absent id other action

-- what is asked of one store alone
at_own : (b : Bool) (es : List Event) (gone : State → Bool) (before left : Option State) → b ≡ true
    → Becomes es gone before left → Becomes (if b then es else []) (λ s. b && gone s) before left
at_own true es gone before left same is = is
at_own false es gone before left same is = absurd (false≢true same)

at_other : (b : Bool) (es : List Event) (gone : State → Bool) (before left : Option State) → b ≡ false
    → Becomes [] (λ s. false) before left → Becomes (if b then es else []) (λ s. b && gone s) before left
at_other true es gone before left other is = absurd (false≢true (sym other))
at_other false es gone before left other is = is

-- an action that is refused for memory asks nothing of a store
lacks_nothing : (action : Action) (found : Option Held) → MayLack action found
    → (events_of action ≡ []) × ((s : State) → removes action s ≡ false)
lacks_nothing (Create config) found lacks = (refl, λ s. refl)
lacks_nothing (Changes (Resize size)) (Some h) lacks = (refl, λ s. refl)
lacks_nothing (Changes (SetKind kind)) (Some h) lacks = (refl, λ s. refl)
lacks_nothing (Changes (SetChannel channel)) (Some h) lacks = absurd lacks
lacks_nothing (Changes Enable) (Some h) lacks = absurd lacks
lacks_nothing (Changes Disable) (Some h) lacks = absurd lacks
lacks_nothing (Changes (Begin from to)) (Some h) lacks = absurd lacks
lacks_nothing (Changes Abort) (Some h) lacks = absurd lacks
lacks_nothing (Changes (DeleteContent limit)) (Some h) lacks = absurd lacks
lacks_nothing (Changes change) None lacks = absurd lacks
lacks_nothing action found lacks = absurd lacks

lacking : (b : Bool) (es : List Event) (gone : State → Bool) (before : Option State) → es ≡ []
    → ((s : State) → gone s ≡ false) → Becomes (if b then es else []) (λ s. b && gone s) before before
lacking true es gone before none kept = stays es gone before none kept
lacking false es gone before none kept = stays [] (λ s. false) before refl (λ s. refl)

abbrev with_put : State → Held → Held
with_put t h = record h { state = t }

state_put : (t : State) (o : Option Held) → state_in (option_map (with_put t) o) ≡ option_map (λ _. t) (state_in o)
state_put t (Some h) = refl
state_put t None = refl

module _ (id : List ℕ) (m n : Holdings) where
  abbrev Left : List ℕ → Call → Type 0
  Left at c = Becomes (events_in at m c) (removes_in at c) (state_of at m) (state_of at n)

  -- nothing is asked of the store, which is as it was
  left_alone : state_of id n ≡ state_of id m → Becomes [] (λ s. false) (state_of id m) (state_of id n)
  left_alone left = rw left (stays [] (λ s. false) (state_of id m) refl (λ s. refl))

  record_before : (now : ℕ) (p : SpacePacket) (b : Bool) (before : Option State)
      → Becomes (if b then event.Offer now p ∷ [] else []) (removes_in id (records now p)) before
      (option_map (offered_if b now p) before)
  record_before now p true (Some s) = (refl, inl refl)
  record_before now p false (Some s) = (refl, inl refl)
  record_before now p b None = tt

  ask : (k : List ℕ) (event : Event) (s : State) → state_of k m ≡ Some s → n ≡ with_state k m (step s event).1
      → (b : Bool) → bytes_eq k id ≡ b → Left id (asks k event)
  ask k event s found is true same =
      let t = (step s event).1 in
      let left : state_of k n ≡ Some t =
      ap (state_of k) is ∙ ap state_in (changed_own k (λ h. record h { state = t }) (λ h e. same_id h.id k e) m.stores)
      ∙ state_put t (store_of k m.stores) ∙ ap (option_map (λ _. t)) found in
      let there : Becomes (event ∷ []) (λ s. false) (state_of k m) (state_of k n) = rw (found, left) (refl, inl refl) in
      rw same (subst (λ (i : List ℕ). Becomes (event ∷ []) (λ s. false) (state_of i m) (state_of i n))
      (same_id k id same) there)
  ask k event s found is false other =
      rw other (left_alone (ap (state_of id) is ∙ ap state_in
      (changed_other k (λ h. record h { state = (step s event).1 }) (λ h e. same_id h.id k e) id other m.stores)))

  apply_own : (i : Instruction) → n ≡ (apply (Ok i) m).1 → (b : Bool) → bytes_eq i.id id ≡ b → Left id (applies (Ok i))
  apply_own i is true same =
      let there : Becomes (events_of i.action) (removes i.action) (state_of i.id m) (state_of i.id n) =
      rw is (own i.id m i.action (store_of i.id m.stores) refl) in
      at_own (bytes_eq i.id id) (events_of i.action) (removes i.action) (state_of id m) (state_of id n) same
      (subst (λ (k : List ℕ). Becomes (events_of i.action) (removes i.action) (state_of k m) (state_of k n))
      (same_id i.id id same) there)
  apply_own i is false other =
      at_other (bytes_eq i.id id) (events_of i.action) (removes i.action) (state_of id m) (state_of id n) other
      (left_alone (ap (state_of id) is ∙ other_same i.id m id other i.action (store_of i.id m.stores) refl))

  apply_left : (i : Parsed) (outcome : Outcome) → Applies i m (outcome, n) → Left id (applies i)
  apply_left (Ok i) outcome (inl is) = apply_own i (ap (λ (x : Outcome × Holdings). x.1) is) (bytes_eq i.id id) refl
  apply_left (Ok i) outcome (inr lacks) =
      let left : state_of id n ≡ state_of id m = ap (λ (x : Outcome × Holdings). state_of id x.1) lacks.2 in
      let nothing = lacks_nothing i.action (store_of i.id m.stores) lacks.0 in
      rw left (lacking (bytes_eq i.id id) (events_of i.action) (removes i.action) (state_of id m) nothing.0 nothing.1)
  apply_left (Err reason) outcome (inl is) = left_alone (ap (λ (x : Outcome × Holdings). state_of id x.1) is)
  apply_left (Err reason) outcome (inr lacks) = absurd lacks.0

  -- what becomes of the store in a turn
  pub becomes : (c : Call) → MayLeave c m n → Left id c
  becomes (records now p) is =
      rw (ap (state_of id) is ∙ recorded_state now m.routes p id m.stores)
      (record_before now p (is_routed m.routes id p) (state_of id m))
  becomes (asks k event) is = ask k event is.0 is.1 is.2 (bytes_eq k id) refl
  becomes (applies i) is = apply_left i is.0 is.1
