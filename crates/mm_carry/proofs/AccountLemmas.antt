-- What became of the packets of a run: a log of offers, the log's seats, a step run, and then one step after another.
use Rattle.mm_carry.proofs.Words
use Words.{cases_lt, cases_eq, eq-eqb, ne_eqb, append-nil, map-append, nil_from_length, All-head, All-nil, All-tail}
use Words.{flat_map-map, fill_by_all, IsPermutation-refl, IsPermutation-sym, IsPermutation-trans}
use Words.{IsPermutation-append_left, IsPermutation-append_right, IsPermutation-append_comm, range_with_len, Ok}
use Words.{flat_map, IsPermutation, SpacePacket, Dumping, Amounts, Stored, ReplaysKeepStates, State, IsState, step}
use Words.{IsTaken, AreTaken, asked, IsShuffleOfEvents, replay, IsLegal, AreBelow, part, Entry, Event, Offer, IsRunOf}
use Words.{IsStepRun, AreTimed, ◌≡◌, ◌≢◌, ◌⊎◌, inl, inr, ℕ, zero, suc, ◌+◌, ◌-◌, ◌<◌, ◌≤◌, List, [], ◌∷◌, ◌++◌, length}
use Words.{get_or, refl, sym, ap, subst, ◌∙◌, arith, append_assoc, packet_in, packets_in, packets_offered, over_steps}
use Words.{AreAskedIn, HaveLeft, IsAccounted, Reply, joined, conserved, loses_new, loses_oldest}
use Rattle.mm_carry.proofs.RangeLists.{flat_map_range_same}
use Rattle.mm_desk.specs.Fates.{packets_of, accepted, taken, given, given_up, deleted, after, over}
use Rattle.mm_carry.proofs.DumpLemmas.{replayed, over_both, dump_does, none_left, after-append, left_more, over_then}
use Rattle.mm_carry.proofs.Stepping.{halves, stands}
use Rattle.mm_desk.specs.declared.reply.Reply.TheVariants as reply

-- what an offer that is taken takes, deletes and gives
record TakesAlone (s : State) (event : Event) : Type 0 where
  takes : taken s event ≡ packet_in event
  deletes : deleted s event ≡ []
  gives : given s event ≡ []

-- the packet that a reply to its offer takes
abbrev takes_by : SpacePacket → Reply → List SpacePacket
takes_by packet (reply.Offered answer) = accepted packet answer
takes_by packet other = []

by_event : (s : State) (event : Event) (answer : Reply) → IsTaken event answer → answer ≡ (step s event).0
    → TakesAlone s event
by_event s (Offer now packet) (reply.Offered (Ok offered)) taken is =
    record { takes = sym (ap (takes_by packet) is); deletes = refl; gives = refl }
by_event s event answer taken is = absurd taken

-- what a legal log of offers that are taken does
record Takes (s : State) (log : List Entry) : Type 0 where
  takes : over taken s (asked log) ≡ packets_in (asked log)
  deletes : over deleted s (asked log) ≡ []
  gives : over given s (asked log) ≡ []

takes_all : (s : State) (log : List Entry) → IsLegal s log → AreTaken log → Takes s log
takes_all s [] legal all = record { takes = refl; deletes = refl; gives = refl }
takes_all s (e ∷ es) legal all =
    let here = by_event s e.event e.reply (All-head (λ (x : Entry). IsTaken x.event x.reply) e es all) legal.0 in
    let rest = takes_all (step s e.event).1 es legal.1 (All-tail (λ (x : Entry). IsTaken x.event x.reply) e es all) in
    record {
      takes = λ i. here.takes i ++ rest.takes i;
      deletes = λ i. here.deletes i ++ rest.deletes i;
      gives = λ i. here.gives i ++ rest.gives i;
    }

module _ {X : Type 0} (f g : ℕ → List X) (x : List X) (j : ℕ) (here : f j ≡ x ++ g j) (others : (k : ℕ) → k ≢ j → f k
    ≡ g k) where
  -- what one seat has more stands first
  more_at : (a n : ℕ) → a ≤ j → j < a + n → IsPermutation (flat_map f (range_with_len a n))
      (x ++ flat_map g (range_with_len a n))
  more_at a zero low high = absurd (omega arith)
  more_at a (suc n) low high =
      let rest = flat_map g (range_with_len (a + 1) n) in
      elim (cases_eq a j) [
        | inl at ↦
            let front : f a ≡ x ++ g a = ap f at ∙ here ∙ ap (λ k. x ++ g k) (sym at) in
            let back = flat_map_range_same f g (a + 1) n (λ k from to. others k (λ same. omega (arith, same))) in
            subst (λ l. IsPermutation l (x ++ (g a ++ rest)))
            (sym ((λ i. front i ++ back i) ∙ append_assoc x (g a) rest)) (IsPermutation-refl _)
        | inr other ↦
            let later = IsPermutation-append_right (g a) _ _ (more_at (a + 1) n (omega arith) (omega arith)) in
            let turned = subst (λ (ls : List X × List X). IsPermutation ls.0 ls.1)
            (λ i. (append_assoc (g a) x rest i, append_assoc x (g a) rest i))
            (IsPermutation-append_left rest _ _ (IsPermutation-append_comm (g a) x)) in
            subst (λ l. IsPermutation (l ++ flat_map f (range_with_len (a + 1) n)) (x ++ (g a ++ rest)))
            (sym (others a other)) (IsPermutation-trans _ _ _ later turned)
      ]

-- what the seats of a log asked, seat by seat
parted : (n : ℕ) (log : List Entry) → AreBelow n log → IsPermutation (packets_in (asked log))
    (flat_map (λ k. packets_in (asked (part k log))) (range_with_len 0 n))
parted n [] below = subst (IsPermutation []) (sym (nothing 0 n)) (IsPermutation-refl [])
  where
    nothing : (a n : ℕ) → flat_map (λ k. packets_in (asked (part k []))) (range_with_len a n) ≡ []
    nothing a zero = refl
    nothing a (suc n) = nothing (a + 1) n
parted n (e ∷ es) below =
    let within : e.seat < n = All-head (λ (x : Entry). x.seat < n) e es below in
    let rest = parted n es (All-tail (λ (x : Entry). x.seat < n) e es below) in
    let here : packets_in (asked (part e.seat (e ∷ es))) ≡ packet_in e.event ++ packets_in (asked (part e.seat es)) =
    rw (eq-eqb e.seat e.seat refl) refl in
    let others = λ (k : ℕ) (other : k ≢ e.seat). not_mine k other in
    IsPermutation-trans _ _ _ (IsPermutation-append_right (packet_in e.event) _ _ rest)
    (IsPermutation-sym _ _ (more_at (λ k. packets_in (asked (part k (e ∷ es)))) (λ k. packets_in (asked (part k es)))
    (packet_in e.event) e.seat here others 0 n (omega arith) (omega arith)))
  where
    not_mine : (k : ℕ) → k ≢ e.seat → packets_in (asked (part k (e ∷ es))) ≡ packets_in (asked (part k es))
    not_mine k other = rw (ne_eqb e.seat k (λ same. other (sym same))) refl

-- a log that is a shuffle of offers asks what they ask
shuffled_packets : (offers : List (List Event)) (log : List Entry) → IsShuffleOfEvents offers log
    → IsPermutation (packets_offered offers) (packets_in (asked log))
shuffled_packets offers log shuffle =
    let seats = range_with_len 0 (length offers) in
    let alike = flat_map_range_same (λ k. packets_in (asked (part k log))) (λ k. packets_in (get_or offers k [])) 0
    (length offers) (λ k from within. ap packets_in (shuffle.parts k (omega arith))) in
    let all = sym (flat_map-map packets_in (λ k. get_or offers k []) seats) ∙ ap (flat_map packets_in)
    (sym (fill_by_all (λ k. get_or offers k []) offers (length offers) [] refl (λ k within. refl))) in
    subst (λ l. IsPermutation l (packets_in (asked log))) (alike ∙ all)
    (IsPermutation-sym _ _ (parted (length offers) log shuffle.below))

-- what a step run, by these events, does with packets
record StepAccounts (s t : State) (came : List SpacePacket) (gave : List Stored) (es : List Event) : Type 0 where
  packets : IsPermutation (packets_of s.store.content ++ came)
      (packets_of gave ++ packets_of t.store.content ++ over given_up s es)
  leads : t ≡ after s es
  gives : over given s es ≡ gave
  gone : HaveLeft s es gave

-- one step run after another
accounts_then : (s mid t : State) (came more : List SpacePacket) (gave now : List Stored)
    (es fs : List Event) → IsState s → StepAccounts s mid came gave es → StepAccounts mid t more now fs
    → StepAccounts s t (came ++ more) (gave ++ now) (es ++ fs)
accounts_then s mid t came more gave now es fs sound first second = record {
  packets = rw (map-append (λ (p : Stored). p.packet) gave now, over_then given_up s mid es fs first.leads)
      (joined (packets_of s.store.content) _ _ (packets_of mid.store.content) _ _ _ _ _ first.packets second.packets);
  leads = second.leads ∙ ap (λ (u : State). after u fs) first.leads ∙ sym (after-append s es fs);
  gives = over_then given s mid es fs first.leads ∙ (λ i. first.gives i ++ second.gives i);
  gone = left_more s es fs gave now sound first.gone
      (subst (λ (u : State). HaveLeft u fs now) first.leads second.gone);
}

-- the packets of what was given step after step
packets_over : (gave : ℕ → List Stored) (n : ℕ)
    → packets_of (over_steps gave n) ≡ over_steps (λ t. packets_of (gave t)) n
packets_over gave zero = refl
packets_over gave (suc n) =
    map-append (λ (p : Stored). p.packet) (over_steps gave n) (gave (suc n))
    ∙ ap (λ (ps : List SpacePacket). ps ++ packets_of (gave (suc n))) (packets_over gave n)

-- before the first step nothing was asked
pub none_asked : (offers : ℕ → List (List Event)) (s : State) → IsAccounted 0 offers (λ t. []) (λ t. s)
none_asked offers s = record {
  lost = [];
  packets = IsPermutation-refl _;
  counted = omega arith;
  rising = λ i j d before within. absurd (omega arith);
  events = λ t. [];
  history = record {
    runs = λ t first last. absurd (omega arith);
    leads = λ t last. let none : t ≡ 0 = omega arith in rw none refl;
    gives = λ t last. let none : t ≡ 0 = omega arith in rw none refl;
    gone = none_left s [];
  };
  loses = record {
    are = refl;
    bounded = λ kind. record { full = tt; none = refl };
    circular = λ kind. record { lost = refl; older = All-nil _ };
  };
}

-- a step is one of those from the first on
from_one : (t : ℕ) → 0 < t → 1 ≤ t
from_one t some = omega arith

module _ (keep : ReplaysKeepStates) where
  step_accounts : (s t : State) (offers : List (List Event)) (wanted : ℕ) (gave : List Stored) → IsState s
      → AreTimed offers → (is : IsStepRun offers wanted gave s t)
      → StepAccounts s t (packets_offered offers) gave (asked (is.recorded ++ is.dumped))
  step_accounts s t offers wanted gave sound timed is =
      let mid = replay s is.recorded in
      let parts = halves keep s t offers wanted gave sound timed is in
      let takes = takes_all s is.recorded parts.recording.legal is.taken in
      let log = conserved s (asked is.recorded) in
      let lost = over given_up s (asked is.recorded) in
      let held : IsPermutation (packets_of s.store.content ++ packets_in (asked is.recorded))
      (packets_of mid.store.content ++ lost) = rw (takes.deletes, replayed s is.recorded, takes.takes) at log.packets in
      let oldest = parts.dumps.oldest in
      let split : packets_of mid.store.content ≡ packets_of gave ++ packets_of t.store.content =
      ap packets_of oldest ∙ map-append (λ (p : Stored). p.packet) gave t.store.content in
      let does = dump_does mid t wanted gave is.dumped parts.stood is.dump parts.dumping in
      let leads : t ≡ after mid (asked is.dumped) = parts.dumping.leaves ∙ sym (replayed mid is.dumped) in
      -- a dump gives nothing up
      let few = (conserved mid (asked is.dumped)).lost in
      let none = nil_from_length (over given_up mid (asked is.dumped))
      (omega (arith, few, ap (λ (u : State). u.lost) leads, ap (λ (u : State). u.lost) parts.dumps.others)) in
      let all : lost ≡ over given_up s (asked (is.recorded ++ is.dumped)) =
      sym (over_both given_up s is.recorded is.dumped ∙ ap (λ ps. lost ++ ps) none ∙ append-nil lost) in
      record {
        packets = subst (λ (ls : List SpacePacket × List SpacePacket).
            IsPermutation (packets_of s.store.content ++ packets_offered offers) (ls.0 ++ ls.1))
            (λ i. (split i, all i))
            (IsPermutation-trans _ _ _ (IsPermutation-append_right (packets_of s.store.content) _ _
            (shuffled_packets offers is.recorded is.shuffle)) held);
        leads = is.run.leaves ∙ sym (replayed s (is.recorded ++ is.dumped));
        gives = over_both given s is.recorded is.dumped ∙ (λ i. takes.gives i ++ does.gives i);
        gone = subst (λ (es : List Event). HaveLeft s es gave)
            (sym (map-append (λ (e : Entry). e.event) is.recorded is.dumped))
            (left_more s (asked is.recorded) (asked is.dumped) [] gave sound (none_left s (asked is.recorded))
            (subst (λ (u : State). HaveLeft u (asked is.dumped) gave) (sym (replayed s is.recorded)) does.gone));
      }

  module _ (q : Dumping) (x : Amounts) (steps : ℕ) (offers : ℕ → ℕ → List (List Event)) (gave : ℕ → ℕ → List Stored)
      (states : ℕ → ℕ → State) (is : IsRunOf q x steps offers gave states) (s : ℕ) (store : s < length q.rows) where
    -- the events of a step of the run; none of another step
    events_by : (t : ℕ) → (0 < t) ⊎ (t ≤ 0) → (steps < t) ⊎ (t ≤ steps) → List Event
    events_by t (inl first) (inr last) =
        let run = is.runs s t store (from_one t first) last in asked (run.recorded ++ run.dumped)
    events_by t first last = []

    events : ℕ → List Event
    events t = events_by t (cases_lt 0 t) (cases_lt steps t)

    abbrev MadeBy : ℕ → List Event → Type 0
    MadeBy t es = AreAskedIn (offers s t) (gave s t) (states s (t - 1)) (states s t) es

    made_by : (t : ℕ) (first : (0 < t) ⊎ (t ≤ 0)) (last : (steps < t) ⊎ (t ≤ steps)) → 1 ≤ t → t ≤ steps
        → MadeBy t (events_by t first last)
    unfolding events_by
    made_by t (inl first) (inr last) some within = (x s t, is.runs s t store (from_one t first) last, refl)
    made_by t (inl first) (inl beyond) some within = absurd (omega (arith, beyond, within))
    made_by t (inr none) last some within = absurd (omega (arith, none, some))

    made : (t : ℕ) → 1 ≤ t → t ≤ steps → MadeBy t (events t)
    unfolding events
    made t = made_by t (cases_lt 0 t) (cases_lt steps t)

    -- as the run begins
    abbrev begun : State
    begun = states s 0

    -- what is known after some of the steps
    told : (n : ℕ) → n ≤ steps → StepAccounts begun (states s n) (over_steps (λ t. packets_offered (offers s t)) n)
        (over_steps (gave s) n) (over_steps events n)
    told zero within =
        record { packets = IsPermutation-refl _; leads = refl; gives = refl; gone = none_left begun [] }
    told (suc n) within =
        let stood = stands keep q x steps offers gave states is s n store (omega arith) in
        let back : suc n - 1 ≡ n = omega arith in
        let here = rw back at (made (suc n) (omega arith) within) in
        accounts_then begun (states s n) (states s (suc n)) _ _ _ _ (over_steps events n) (events (suc n))
        (is.ready s store).sound (told n (omega arith))
        (subst (StepAccounts (states s n) (states s (suc n)) (packets_offered (offers s (suc n))) (gave s (suc n)))
        (sym here.2) (step_accounts (states s n) (states s (suc n)) (offers s (suc n)) here.0 (gave s (suc n))
        stood.sound (is.timed s (suc n) store (omega arith) within) here.1))

    pub accounted : IsAccounted steps (offers s) (gave s) (states s)
    accounted =
        let all = told steps (omega arith) in
        let es = over_steps events steps in
        record {
          lost = over given_up begun es;
          packets = rw (← packets_over (gave s) steps) all.packets;
          counted = ap (λ (u : State). u.lost) all.leads ∙ (conserved begun es).lost;
          rising = all.gone.rising;
          events = events;
          history = record {
            runs = made;
            leads = λ t last. (told t last).leads;
            gives = λ t last. sym (told t last).gives;
            gone = all.gone;
          };
          loses = record {
            are = refl;
            bounded = loses_new begun es;
            circular = loses_oldest begun es (is.ready s store).sound;
          };
        }
