-- The ways that each call of the machine may go.
use Rattle.mm_desk.proofs.Words.{◌≡◌, ◌≢◌, ℕ, ◌+◌, ◌<◌, ◌≤◌, List, [], ◌∷◌, length, Bool, true, false, ltb, max, refl}
use Rattle.mm_desk.proofs.Words.{sym, subst, arith, Option, Some, None, Result, Ok, Err, ◌==◌, ◌||◌, not, is_some}
use Rattle.mm_desk.proofs.Words.{cond_both, or_parts, eqb-false, ne_eqb, ltb-true, ltb-false, SpacePacket, Stored}
use Rattle.mm_desk.proofs.Words.{Event, Offer, Begin, Next, Abort, Delete, NoMemory, Offered, KeptOver, Lost, Returned}
use Rattle.mm_desk.proofs.Words.{Retrieval, Kind, Bounded, Circular, clock_end, put, put_full, with_newest, first_in}
use Rattle.mm_desk.proofs.Words.{delete_up_to, count_up_to, State, answer_of, give, next_of, step}
use Rattle.mm_desk.specs.Types.{Enable, Disable, Fault, Disabled, Busy, Idle, BadRange, ClockEnd, Kept}
use Rattle.mm_desk.specs.Machine.{after_put, offer, begin, next, abort, delete}
use Rattle.mm_store.specs.declared.put.Put.TheVariants as put

-- an event is neither an offer nor a deletion
abbrev pub IsQuiet : Event → Type 0
IsQuiet (Offer now packet) = ⊥
IsQuiet (Delete limit) = ⊥
IsQuiet other = Unit {0}

-- a packet that is put gets a time after the last one
pub record IsNewest (s : State) (offered : SpacePacket) (new : Stored) : Type 0 where
  pub packet : new.packet ≡ offered
  pub later : s.store.last < new.time

-- a full circular store has this oldest packet and these after it
pub record Overwrites (s : State) (oldest : Stored) (later : List Stored) : Type 0 where
  pub circular : s.store.kind ≡ Circular
  pub held : s.store.content ≡ oldest ∷ later
  pub full : s.store.size ≤ length s.store.content

-- a full store has no packet to overwrite
pub record IsStuck (s : State) : Type 0 where
  pub full : s.store.size ≤ length s.store.content
  pub none : s.store.kind ≡ Circular → s.store.content ≡ []

module _ (s : State) where
  -- an offer is refused, or the packet is put
  pub offer_cases : (P : Result Offered Returned × State → Type 0) (now : ℕ) (packet : SpacePacket)
      → ((fault : Fault) → fault ≢ NoMemory → P (Err (record { fault = fault; packet = packet }), s))
      → (s.store.last ≢ clock_end → s.offered ≢ clock_end
      → P (answer_of (put s.store now packet).0, after_put s (put s.store now packet))) → P (offer s now packet)
  offer_cases P now packet refused is_put =
      cond_both (not s.storage) _ _ P (λ off. refused Disabled (λ same. cc same))
      (λ on. cond_both ((s.store.last == clock_end) || (s.offered == clock_end)) _ _ P
      (λ late. refused ClockEnd (λ same. cc same))
      (λ early.
      let both = or_parts (s.store.last == clock_end) (s.offered == clock_end) early in
      is_put (eqb-false s.store.last clock_end both.0) (eqb-false s.offered clock_end both.1)))

  -- where it is put, a store with room keeps it, and a full one overwrites its oldest packet or loses the new one
  pub put_cases : (P : Result Offered Returned × State → Type 0) (now : ℕ) (packet : SpacePacket)
      → ((fault : Fault) → fault ≢ NoMemory → P (Err (record { fault = fault; packet = packet }), s))
      → ((new : Stored) → IsNewest s packet new → length s.store.content < s.store.size
      → P (Ok (Kept new.time), after_put s (put.Kept new.time, with_newest s.store s.store.content new)))
      → ((new : Stored) → IsNewest s packet new → (oldest : Stored) (later : List Stored) → Overwrites s oldest later
      → P (
        Ok (KeptOver new.time oldest.packet),
        after_put s
            (put.KeptOver new.time oldest.packet, with_newest s.store later new),
      ))
      → (IsStuck s → P (Ok (Lost packet), after_put s (put.Lost packet, s.store))) → P (offer s now packet)
  put_cases P now packet refused kept over lost =
      let new : Stored = record { time = max now (s.store.last + 1); packet = packet } in
      let newest : IsNewest s packet new = record { packet = refl; later = omega arith } in
      offer_cases P now packet refused
      (λ last offered. rw (ne_eqb s.store.last clock_end last)
      (cond_both (ltb (length s.store.content) s.store.size) _ _ (λ done. P (answer_of done.0, after_put s done))
      (λ free. kept new newest (ltb-true (length s.store.content) s.store.size free))
      (λ full. by_full new newest s.store.kind s.store.content refl refl
      (ltb-false (length s.store.content) s.store.size full))))
    where
      by_full : (new : Stored) → IsNewest s packet new → (kind : Kind) (held : List Stored) → s.store.kind ≡ kind
          → s.store.content ≡ held → s.store.size ≤ length s.store.content
          → P (answer_of (put_full kind held s.store new).0, after_put s (put_full kind held s.store new))
      by_full new newest Circular (oldest ∷ later) circular is full =
          over new newest oldest later (record { circular = circular; held = is; full = full })
      by_full new newest Circular [] circular is full =
          subst (λ (p : SpacePacket). P (Ok (Lost p), after_put s (put.Lost p, s.store))) (sym newest.packet)
          (lost (record { full = full; none = λ same. is }))
      by_full new newest Bounded held bounded is full =
          subst (λ (p : SpacePacket). P (Ok (Lost p), after_put s (put.Lost p, s.store))) (sym newest.packet)
          (lost (record { full = full; none = λ circular. absurd cc }))

  -- a retrieval is refused, or begins
  pub begin_cases : (P : Result (Unit {0}) Fault × State → Type 0) (from to : ℕ)
      → ((fault : Fault) → fault ≢ NoMemory → P (Err fault, s))
      → (is_some s.retrieval ≡ false → P (
        Ok tt,
        record s {
          retrieval = Some
              (record { from = from; to = to; after = 0 });
        },
      )) → P (begin s from to)
  begin_cases P from to refused begun =
      cond_both (is_some s.retrieval) _ _ P (λ busy. refused Busy (λ same. cc same))
      (λ idle. cond_both (ltb to from) _ _ P (λ bad. refused BadRange (λ same. cc same)) (λ forward. begun idle))

  -- no retrieval is on, a packet is found, or the retrieval is over
  pub next_cases : (P : Result (Option Stored) Fault × State → Type 0) → P (Err Idle, s)
      → ((r : Retrieval) (p : Stored) → s.retrieval ≡ Some r → first_in r.from r.to r.after s.store.content ≡ Some p
      → P (Ok (Some p), record s { retrieval = Some (record r { after = p.time }) }))
      → P (Ok None, record s { retrieval = None }) → P (next s)
  next_cases P idle found over = by_retrieval s.retrieval refl
    where
      by_found : (r : Retrieval) → s.retrieval ≡ Some r → (next : Option Stored)
          → first_in r.from r.to r.after s.store.content ≡ next → P (give s r next)
      by_found r on (Some p) is = found r p on is
      by_found r on None is = over

      by_retrieval : (retrieval : Option Retrieval) → s.retrieval ≡ retrieval → P (next_of s retrieval)
      by_retrieval (Some r) on = by_found r on _ refl
      by_retrieval None off = idle

  -- no retrieval is on, or it is ended
  pub abort_cases : (P : Result (Unit {0}) Fault × State → Type 0) → P (Err Idle, s)
      → P (Ok tt, record s { retrieval = None }) → P (abort s)
  abort_cases P idle ended = cond_both (is_some s.retrieval) _ _ P (λ on. ended) (λ off. idle)

  -- a deletion is refused, or is made
  pub delete_cases : (P : Result ℕ Fault × State → Type 0) (limit : ℕ) → (is_some s.retrieval ≡ true → P (Err Busy, s))
      → (is_some s.retrieval ≡ false → P (
        Ok (count_up_to limit s.store.content),
        record s {
          store = delete_up_to s.store limit;
          deleted = s.deleted + count_up_to limit s.store.content;
        },
      )) → P (delete s limit)
  delete_cases P limit refused made = cond_both (is_some s.retrieval) _ _ P refused made

  -- an event that is neither an offer nor a deletion changes the storage switch and the retrieval alone
  pub quiet_leaves : (e : Event) → IsQuiet e → (P : State → Type 0)
      → ((storage : Bool) (retrieval : Option Retrieval) → P (record s { storage = storage; retrieval = retrieval }))
      → P (step s e).1
  quiet_leaves (Offer now packet) quiet P stays = absurd quiet
  quiet_leaves (Begin from to) quiet P stays =
      begin_cases (λ r. P r.1) from to (λ fault other. stays _ _) (λ idle. stays _ _)
  quiet_leaves Next quiet P stays = next_cases (λ r. P r.1) (stays _ _) (λ r p on found. stays _ _) (stays _ _)
  quiet_leaves Abort quiet P stays = abort_cases (λ r. P r.1) (stays _ _) (stays _ _)
  quiet_leaves (Delete limit) quiet P stays = absurd quiet
  quiet_leaves Enable quiet P stays = stays _ _
  quiet_leaves Disable quiet P stays = stays _ _
