-- Stores that are ready, and counts that are far from their end, from step to step.
use Rattle.mm_carry.proofs.Words
use Words.{cases_lt, length-map, All-nil, All-cons, All-map, sum_by-le, AllZip, IsTrue, Option, Some, None, filter}
use Words.{All-front, sum_by-map, SpacePacket, order_dumps, BrokenOrdersChangeNothing, State, IsState, count_of}
use Words.{opening_at, replay, Event, Offer, Held, labels_of, states_of, id_at, is_routed, filter_fewer}
use Words.{RecordingContext, offers, given_in, Supply, Course, EndedAs, HasTried, MayDump, Sent, Order, OrderBroken}
use Words.{AreFirstOffers, Fault, RunState, AreReady, MayCarry, IsStep, orders_after, Stop, IsBy, AreBy, ◌≡◌, inl, inr}
use Words.{ℕ, ◌*◌, ◌<◌, ◌≤◌, List, [], ◌∷◌, ◌++◌, length, map, get_or, All, refl, sym, ap, subst, ◌∙◌, arith, Records}
use Rattle.mm_shared.proofs.Opening.{state_at}
use Rattle.mm_carry.proofs.Replays.{KeepsSwitches, run_moves}
use Rattle.mm_carry.proofs.Placing.{no_held}
use Rattle.mm_carry.proofs.Parts.{as_many, first_turns, orders_left}

-- what holds of each state holds of each store
pub all_states : (P : State → Type 0) (held : List Held)
    → ((k : ℕ) → k < length held → P (opening_at (states_of held) k)) → All (λ h. P h.state) held
all_states P held each k d within = subst P (sym (state_at held k d within)) (each k within)

pub state_holds : (P : State → Type 0) (held : List Held) → All (λ h. P h.state) held → (k : ℕ) → k < length held
    → P (opening_at (states_of held) k)
state_holds P held all k within = subst P (state_at held k no_held within) (all k no_held within)

-- offers of a step are made at its moment
offers_by : (e : RecordingContext) (k : ℕ) (g : List SpacePacket) → All (IsBy e.now) (offers e k g)
offers_by e k g = All-map (IsBy e.now) (λ (p : SpacePacket). Offer e.now p) (filter (is_routed e.routes (id_at e.ids k))
    g) (λ i p inside. omega arith)

pub all_by : (e : RecordingContext) (k : ℕ) (gave : List (List SpacePacket)) → AreBy e.now (map (offers e k) gave)
all_by e k gave = All-map (λ (list : List Event). All (IsBy e.now) list) (offers e k) gave
    (λ i g inside. offers_by e k (get_or gave i g))

-- stores that are sound, and whose switches are as they were, are ready where they were
ready_on : (stores left : List Held) → labels_of left ≡ labels_of stores → All (λ h. IsState h.state) left
    → ((k : ℕ) → k < length (states_of left) → KeepsSwitches (opening_at (states_of stores) k)
    (opening_at (states_of left) k)) → AreReady stores → AreReady left
ready_on stores left labels sound at ready =
    let many = as_many left stores labels in
    let counted = length-map left (λ (h : Held). h.state) in
    record {
      sound = sound;
      storage = all_states (λ (s : State). IsTrue s.storage) left (λ k within.
          (at k (omega (arith, counted, within))).storage ∙ state_holds (λ (s : State). IsTrue s.storage) stores
          ready.storage k (omega (arith, many, within)));
      idle = all_states (λ (s : State). s.retrieval ≡ None) left (λ k within.
          (at k (omega (arith, counted, within))).retrieval ∙ state_holds (λ (s : State). s.retrieval ≡ None) stores
          ready.idle k (omega (arith, many, within)));
    }

-- the first of the offers of sources are offers at the moment
firsts_by : (e : RecordingContext) (k : ℕ) (given : List (List SpacePacket)) (firsts : List (List Event))
    → AllZip (AreFirstOffers e k) given firsts → AreBy e.now firsts
firsts_by e k [] [] are = All-nil (λ (list : List Event). All (IsBy e.now) list)
firsts_by e k (g ∷ gs) (f ∷ fs) are =
    All-cons (λ (list : List Event). All (IsBy e.now) list) f fs
    (All-front (IsBy e.now) f are.0.0 (subst (All (IsBy e.now)) are.0.1 (offers_by e k g))) (firsts_by e k gs fs are.1)
firsts_by e k given firsts are = absurd are

-- an order leaves the switches
tried_keeps : BrokenOrdersChangeNothing → (s t : State) (taken : ℕ) (c : Course) → IsState s → HasTried taken c s t
    → KeepsSwitches s t
tried_keeps changes s t taken c sound tried = elim (cases_lt 0 taken) [
  | inl some ↦ by_why c.why (tried.some some)
  | inr none ↦ alike (tried.run.leaves ∙ ap (replay s) (tried.none (omega arith)).0)
]
  where
    alike : t ≡ s → KeepsSwitches s t
    alike same = rw same (record { storage = refl; retrieval = refl })

    by_why : (why : Option OrderBroken) → EndedAs why c → KeepsSwitches s t
    by_why None whole = rw (order_dumps s t c.seat c.order.amount c.sent c.calls sound whole.order tried.run).others
        (record { storage = refl; retrieval = refl })
    by_why (Some why) broke = alike (changes s t c.seat c.order.amount (c.sent ++ c.unsent) c.calls broke.order
        tried.run).0

-- stores that recorders have left are ready
pub ready_recorded : (e : RecordingContext) (before mid : List Held) (fault : Option Fault) (given left : List Supply)
    → length e.ids ≡ length before → AreReady before → Records e before mid fault given left → AreReady mid
ready_recorded e before mid fault given left ids ready records =
    let many = as_many mid before records.labels in
    ready_on before mid records.labels records.sound (λ k within.
    let went = records.logs k within in
    let asked : List (List Event) = map (λ run. run.offered k) records.runs in
    let turns = first_turns e given left records.runs k records.are_runs
    (omega (arith, within, length-map mid (λ (h : Held). h.state), many, ids)) in
    (run_moves e.now asked went.log _ _ went.run went.shuffle (firsts_by e k (given_in e.step given) asked
    turns)).switches) ready

-- stores of a step are ready for more, whether it is whole or was broken off
pub ready_after : {L : Type 0} (sent : L → List Sent) (failed : L → ℕ) (e : RecordingContext) (orders : List Order)
    (stop : Option Stop) (before after : RunState Supply L) → BrokenOrdersChangeNothing
    → length e.ids ≡ length before.stores → AreReady before.stores
    → IsStep sent failed e orders stop before after → AreReady after.stores
ready_after sent failed e orders stop before after changes ids ready is =
    let ready_mid = ready_recorded e before.stores is.mid is.fault before.sources after.sources ids ready is.records in
    let labels = is.labels ∙ sym is.records.labels in
    let many = as_many after.stores is.mid labels in
    let counted = length-map after.stores (λ (h : Held). h.state) in
    ready_on is.mid after.stores labels is.sound
    (λ k within.
    tried_keeps changes _ _ _ (is.dumps.settled.course k) (state_holds IsState is.mid ready_mid.sound k
    (omega (arith, within, counted, many)))
    (is.dumps.settled.stores k within)) ready_mid

-- a step's dump may be carried out after what came is recorded
pub may_dump : {S L : Type 0} (failed : L → ℕ) (moment : ℕ) (fault : Option Fault) (orders : List Order)
    (before : RunState S L) (mid : List Held) → MayCarry failed moment orders before
    → length mid ≡ length before.stores → AreReady mid → MayDump failed (orders_after fault orders) mid before.links
may_dump failed moment fault orders before mid may many ready =
    let left = orders_left (length before.stores) fault orders may.orders_may in
    let there = subst (λ (n : ℕ). All (λ (o : Order). o.place < n) (orders_after fault orders)) (sym many)
    left.places in
    record {
      lowest = may.some_link;
      highest = may.few_links;
      few = omega (arith, many, may.few);
      few_orders = left.few;
      places = there;
      amounts = left.some;
      distinct = left.apart;
      idle = λ i d inside. state_holds (λ (s : State). s.retrieval ≡ None) mid ready.idle
          (get_or (orders_after fault orders) i d).place (there i d inside);
      room = may.links;
    }

-- a store that was offered at most this many packets, and whose last storage time is no later
pub record IsFar (bound : ℕ) (s : State) : Type 0 where
  pub offered : s.offered ≤ bound
  pub last : s.store.last ≤ bound

-- no more packets are offered than are given
pub offers_few : (e : RecordingContext) (k most : ℕ) (gave : List (List SpacePacket)) → All (λ ps. length ps ≤ most)
    gave → count_of (map (offers e k) gave) ≤ length gave * most
offers_few e k most gave all =
    subst (λ (n : ℕ). n ≤ length gave * most) (sym (sum_by-map (λ (events : List Event). length events) (offers e k)
    gave)) (sum_by-le (λ (g : List SpacePacket). length (offers e k g)) most gave each)
  where
    each : All (λ g. length (offers e k g) ≤ most) gave
    each i d inside =
        let kept = filter (is_routed e.routes (id_at e.ids k)) (get_or gave i d) in
        let few : length kept ≤ length (get_or gave i d) = filter_fewer (is_routed e.routes (id_at e.ids k))
        (get_or gave i d) in
        let most_here : length (get_or gave i d) ≤ most = all i d inside in
        omega (arith, length-map kept (λ (p : SpacePacket). Offer e.now p), few, most_here)
