-- What retrievals give was held or kept, and comes in order.
use Rattle.mm_memory.proofs.Words.{◌≡◌, inl, inr, ℕ, Bool, List, [], ◌∷◌, ◌++◌, All, Contains, refl, sym, ap, subst}
use Rattle.mm_memory.proofs.Words.{◌∙◌, arith, append_assoc, map, bytes_eq, Option, Some, None, Ok, Err, cond_both}
use Rattle.mm_memory.proofs.Words.{All-nil, All-cons, All-head, All-tail, All-append, All-filter, All-weaker}
use Rattle.mm_memory.proofs.Words.{All-contains, All-contains_itself, SpacePacket, Event, Retrieval, given, after, over}
use Rattle.mm_memory.proofs.Words.{BeginsNone, State, step, gives_held, Above, MayGive, at_end, by_calls, continues}
use Rattle.mm_memory.proofs.Words.{Holdings, state_of, Parsed, is_routed}
use Rattle.std.proofs.lemmas.Slice.Eq.{bytes_eq-Decides}
use Rattle.mm_base.proofs.Pairs.{All-front, All-back}
use Rattle.mm_store.specs.declared.stored.Stored.{Stored}
use Rattle.mm_store.specs.Content.{IsRising}
use Rattle.mm_desk.proofs.Cases.{put_cases, delete_cases, quiet_leaves}
use Rattle.mm_memory.specs.Accounts.{Call, records, asks, applies, Turn, AreTurns, after_turns, calls_of, kept_by, kept}
use Rattle.mm_memory.specs.Accounts.{in_store, in_turns, held_in, events_of, events_in, removes_in, kept_in, given_by}
use Rattle.mm_memory.specs.Accounts.{BeginsNoneIn}
use Rattle.mm_memory.proofs.RetrievalLemmas.{IsCommand, by_action}
use Rattle.mm_memory.proofs.TurnLemmas.{Becomes, becomes}
use Rattle.mm_desk.specs.declared.event.Event.TheVariants as event

module _ (P : Stored → Type 0) where
  -- what an event gives, and what it leaves
  abbrev pub Has : List Stored → State → Type 0
  Has gave t = All P gave × All P t.store.content

  gave_has : (s : State) (e : Event) → All P s.store.content → All P (given s e)
  gave_has s e all =
      All-weaker (Contains s.store.content) P (λ p at. All-contains P s.store.content p all at) (given s e)
      (gives_held s e)

  newest_has : (older : List Stored) (new : Stored) (packet : SpacePacket) → new.packet ≡ packet → All P older
      → All P (record { time = new.time; packet = packet } ∷ []) → All P (older ++ new ∷ [])
  newest_has older new packet is all keeps =
      All-append P older (new ∷ []) all
      (subst (λ (q : SpacePacket). All P (record { time = new.time; packet = q } ∷ [])) (sym is) keeps)

  left_has : (s : State) (e : Event) → All P s.store.content → All P (kept s e) → All P (step s e).1.store.content
  left_has s (event.Offer now packet) all =
      put_cases s (λ r. All P (kept_by packet r.0) → All P r.1.store.content) now packet (λ fault other keeps. all)
      (λ new is free keeps. newest_has s.store.content new packet is.packet all keeps)
      (λ new is oldest later o keeps.
      newest_has later new packet is.packet (All-tail P oldest later (rw o.held at all)) keeps)
      (λ stuck keeps. all)
  left_has s (event.Delete limit) all = λ keeps.
      delete_cases s (λ r. All P r.1.store.content) limit (λ busy. all) (λ idle. All-filter _ P s.store.content all)
  left_has s e all = λ keeps. quiet_leaves s e tt (λ t. All P t.store.content) (λ storage retrieval. all)

  events_have : (s : State) (es : List Event) → All P s.store.content → All P (over kept s es)
      → Has (over given s es) (after s es)
  events_have s [] all keeps = (All-nil P, all)
  events_have s (e ∷ es) all keeps =
      let left = left_has s e all (All-front P (kept s e) (over kept (step s e).1 es) keeps) in
      let rest = events_have (step s e).1 es left (All-back P (kept s e) (over kept (step s e).1 es) keeps) in
      (All-append P (given s e) (over given (step s e).1 es) (gave_has s e all) rest.0, rest.1)

  -- the same of one store in one turn
  turn_has : (es : List Event) (gone : State → Bool) (before left : Option State) → Becomes es gone before left
      → All P (in_store (λ s. s.store.content) before)
      → All P (in_store (λ s. over kept s es) before)
      → All P (in_store (λ s. over given s es) before) × All P (in_store (λ s. s.store.content) left)
  turn_has es gone (Some s) (Some t) (stays, inl is) all keeps = rw is (events_have s es all keeps)
  turn_has es gone (Some s) (Some t) (stays, inr shape) all keeps = rw (shape.asked, shape.content) (All-nil P, all)
  turn_has es gone (Some s) None (goes, nothing) all keeps = rw nothing (All-nil P, All-nil P)
  turn_has es gone None (Some t) new all keeps = rw new.content (All-nil P, All-nil P)
  turn_has es gone None None nothing all keeps = (All-nil P, All-nil P)

  -- and in any turns
  pub turns_have : (id : List ℕ) (m : Holdings) (turns : List Turn) → AreTurns m turns → All P (held_in id m)
      → All P (in_turns kept_in id m turns)
      → All P (in_turns given_by id m turns) × All P (held_in id (after_turns m turns))
  turns_have id m [] made all keeps = (All-nil P, all)
  turns_have id m (t ∷ ts) made all keeps =
      let before = state_of id m in
      let here = turn_has (events_in id m t.call) (removes_in id t.call) before (state_of id t.left)
      (becomes id m t.left t.call made.0) all
      (All-front P (in_store (kept_in id m t.call) before) (in_turns kept_in id t.left ts) keeps) in
      let rest = turns_have id t.left ts made.1 here.1 (All-back P (in_store (kept_in id m t.call) before)
      (in_turns kept_in id t.left ts) keeps) in
      (All-append P (in_store (given_by id m t.call) before) (in_turns given_by id t.left ts) here.0 rest.0, rest.1)

pub gives_kept : (id : List ℕ) (m : Holdings) (turns : List Turn) → AreTurns m turns
    → All (Contains (held_in id m ++ in_turns kept_in id m turns)) (in_turns given_by id m turns)
gives_kept id m turns made =
    let pool = held_in id m ++ in_turns kept_in id m turns in
    let all = All-contains_itself pool in
    (turns_have (Contains pool) id m turns made (All-front (Contains pool) (held_in id m)
    (in_turns kept_in id m turns) all) (All-back (Contains pool) (held_in id m) (in_turns kept_in id m turns) all)).0

-- instructions neither keep nor give packets
pub keeps_none : (s : State) (e : Event) → IsCommand e → kept s e ≡ []
keeps_none s (event.Offer now packet) command = absurd command
keeps_none s e command = refl

pub gives_none : (s : State) (e : Event) → IsCommand e → given s e ≡ []
gives_none s event.Next command = absurd command
gives_none s e command = refl

module _ {X : Type 0} (each : State → Event → List X)
    (none : (s : State) (e : Event) → IsCommand e → each s e ≡ []) where
  instruction_does : (id : List ℕ) (m : Holdings) (i : Parsed) (before : Option State)
      → in_store (λ s. over each s (events_in id m (applies i))) before ≡ []
  instruction_does id m (Ok i) (Some s) =
      cond_both (bytes_eq i.id id) (events_of i.action) [] (λ es. over each s es ≡ [])
      (λ yes. by_action (λ es. over each s es ≡ []) refl (λ e command. rw (none s e command) refl) i.action)
      (λ no. refl)
  instruction_does id m (Err reason) (Some s) = refl
  instruction_does id m i None = refl

  pub instructions_do : (id : List ℕ) (m : Holdings) (is : List Parsed) (turns : List Turn)
      → calls_of turns ≡ map applies is → in_turns (λ k n c s. over each s (events_in k n c)) id m turns ≡ []
  instructions_do id m is [] same = refl
  instructions_do id m [] (t ∷ ts) same = absurd cc
  instructions_do id m (i ∷ is) (t ∷ ts) same =
      let first : t.call ≡ applies i = cc in
      let rest : calls_of ts ≡ map applies is = cc in
      let later = in_turns (λ k n c s. over each s (events_in k n c)) id t.left ts in
      ap (λ (c : Call). in_store (λ s. over each s (events_in id m c)) (state_of id m) ++ later) first
      ∙ ap (λ l. l ++ later) (instruction_does id m i (state_of id m)) ∙ instructions_do id t.left is ts rest

-- a call that begins no retrieval from a store asks nothing else of it
none_begins : (id : List ℕ) (m : Holdings) (c : Call) → BeginsNoneIn id c → All BeginsNone (events_in id m c)
none_begins id m (records now packet) none =
    cond_both (is_routed m.routes id packet) _ _ (All BeginsNone)
    (λ yes. All-cons BeginsNone (event.Offer now packet) [] tt (All-nil BeginsNone)) (λ no. All-nil BeginsNone)
none_begins id m (asks k event) none =
    cond_both (bytes_eq k id) _ _ (All BeginsNone)
    (λ same. All-cons BeginsNone event [] (none ((bytes_eq-Decides k id).0 same)) (All-nil BeginsNone))
    (λ other. All-nil BeginsNone)
none_begins id m (applies (Ok i)) none =
    cond_both (bytes_eq i.id id) _ _ (All BeginsNone) (λ same. none ((bytes_eq-Decides i.id id).0 same))
    (λ other. All-nil BeginsNone)
none_begins id m (applies (Err reason)) none = All-nil BeginsNone

-- the retrieval from a store, where there is the store
abbrev retrieval_at : Option State → Option Retrieval
retrieval_at (Some s) = s.retrieval
retrieval_at None = None

-- packets may be given from a store on: their times rise, above what was given before
abbrev MayGiveFrom : Option State → List Stored → Type 0
MayGiveFrom before gave = IsRising gave × All (Above (retrieval_at before)) gave

events_rise : (s : State) (es : List Event) → All BeginsNone es → (rest : List Stored) → MayGive (after s es) rest
    → MayGive s (over given s es ++ rest)
events_rise s [] none rest may = may
events_rise s (e ∷ es) none rest may =
    let t = (step s e).1 in
    let later = events_rise t es (All-tail BeginsNone e es none) rest may in
    subst (MayGive s) (sym (append_assoc (given s e) (over given t es) rest))
    (by_calls s e (continues s e (All-head BeginsNone e es none)) (over given t es ++ rest) later)

turn_rises : (es : List Event) (gone : State → Bool) (before left : Option State) → Becomes es gone before left
    → All BeginsNone es → (rest : List Stored) → MayGiveFrom left rest
    → MayGiveFrom before (in_store (λ s. over given s es) before ++ rest)
turn_rises es gone (Some s) (Some t) (stays, inl is) none rest may =
    events_rise s es none rest (subst (λ (u : State). MayGive u rest) is may)
turn_rises es gone (Some s) (Some t) (stays, inr shape) none rest may =
    rw (shape.asked, shape.at_rest) (may.0, subst (λ (r : Option Retrieval). All (Above r) rest) shape.still may.1)
turn_rises es gone (Some s) None (goes, nothing) none rest may = rw nothing (at_end s rest may)
turn_rises es gone None (Some t) new none rest may =
    (may.0, subst (λ (r : Option Retrieval). All (Above r) rest) new.still may.1)
turn_rises es gone None None nothing none rest may = may

turns_rise : (id : List ℕ) (m : Holdings) (turns : List Turn) → AreTurns m turns
    → All (λ t. BeginsNoneIn id t.call) turns → MayGiveFrom (state_of id m) (in_turns given_by id m turns)
turns_rise id m [] made none = (λ i j d before within. absurd (omega arith), All-nil _)
turns_rise id m (t ∷ ts) made none =
    let begins = none_begins id m t.call (All-head (λ (x : Turn). BeginsNoneIn id x.call) t ts none) in
    turn_rises (events_in id m t.call) (removes_in id t.call) (state_of id m) (state_of id t.left)
    (becomes id m t.left t.call made.0) begins (in_turns given_by id t.left ts)
    (turns_rise id t.left ts made.1 (All-tail (λ (x : Turn). BeginsNoneIn id x.call) t ts none))

pub rises : (id : List ℕ) (m : Holdings) (turns : List Turn) → AreTurns m turns
    → All (λ t. BeginsNoneIn id t.call) turns → IsRising (in_turns given_by id m turns)
rises id m turns made none = (turns_rise id m turns made none).0
