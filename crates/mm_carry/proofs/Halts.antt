-- What a step that was broken off leaves at a store, and what each link did where a failed one halted it.
use Rattle.std.specs.Prelude.{Option, Some, None, fold, sum_by, slice_index_or}
use Rattle.mm_dump.specs.Dumped.{times, AllSettled, places_of, AllTried}
use Rattle.mm_carry.proofs.Replays.{IsRun-append}
use Rattle.mm_base.specs.declared.rows.RouteRow.{RouteRow}
use Rattle.mm_carry.specs.Failure.{FailedLink, LastBroke, LinksFailed}
use Rattle.mm_carry.proofs.Parts.{as_many, first_turns, told}
use Rattle.mm_carry.proofs.StoresReady.{state_holds}
use Rattle.std.proofs.lemmas.Bool.Decides.{eqb_tells}
use Rattle.mm_carry.proofs.Words
use Words.{cases_lt, length-map, nil_from_length, All-nil, All-cons, All-head, All-tail, sum_by-cons, sum_by-append}
use Words.{get_or-le-sum_by, cond-eqb_same, cond-eqb_other, given_oldest, State, IsState, opening_at, IsLegal, Fault}
use Words.{Held, IfSome, states_of, RecordingContext, recording, given_in, IsOrderFor, Supply, Course, EndedAs, IsWhole}
use Words.{IsBroken, IsCourse, worse, worst_of, failed_by, sent_by, BrokenOrdersChangeNothing, Sent, Order, OrderBroken}
use Words.{LinkFailed, IsByOneLog, AtEachStore, RunState, IsStep, Stop, orders_after, ◌≡◌, inl, inr, ℕ, ◌<◌, List, []}
use Words.{length, map, All, refl, sym, ap, subst, ◌∙◌, arith, ◌⊎◌, zero, suc, ◌+◌, ◌≤◌, cond, eqb, ◌∷◌, ◌++◌}
use Words.{IfSome_then, aborted}
use Rattle.mm_desk.specs.declared.fault.Fault.TheVariants as fault
use Rattle.mm_dump.specs.declared.order.OrderBroken.TheVariants as worst

-- where orders broke no recorder stopped early
none_early : (fault : Option Fault) (broken : Option OrderBroken) → IfSome fault (λ _. broken ≡ None)
    → broken ≡ Some worst.LinkFailed → fault ≡ None
none_early None broken early linked = refl
none_early (Some fault) broken early linked = absurd (cc (early, linked))

-- a store at which an order is carried out: all orders are
all_orders : (fault : Option Fault) (orders : List Order) (k : ℕ) → 0 < times k (places_of (orders_after fault orders))
    → orders_after fault orders ≡ orders
all_orders None orders k some = refl
all_orders (Some fault) orders k some = absurd (omega (arith, some))

-- the law
pub one_log : {L : Type 0} (sent : L → List Sent) (failed : L → ℕ) (step now : ℕ) (routes : List RouteRow)
    (orders : List Order) (before after : RunState Supply L) (stop : Option Stop)
    → IsStep sent failed (recording step now routes before.stores) orders stop before after
    → AtEachStore (IsByOneLog (recording step now routes before.stores) (given_in step before.sources) orders)
    before.stores after.stores
one_log sent failed step now routes orders before after stop is k within =
    let e = recording step now routes before.stores in
    let many : length is.mid ≡ length before.stores = as_many is.mid before.stores is.records.labels in
    let all : length after.stores ≡ length before.stores = as_many after.stores before.stores is.labels in
    let went = is.records.logs k (omega (arith, within, many, length-map is.mid (λ (h : Held). h.state))) in
    let settled = is.dumps.settled in
    let c = settled.course k in
    let tried = settled.stores k (omega (arith, within, all, length-map after.stores (λ (h : Held). h.state))) in
    record {
      firsts = map (λ run. run.offered k) is.records.runs;
      are =
          first_turns e before.sources after.sources is.records.runs k is.records.are_runs
          (omega (arith, within, length-map before.stores (λ (h : Held). h.id)));
      offered = went.log;
      ordered = c.calls;
      run = IsRun-append _ _ _ went.log c.calls went.run tried.run;
      shuffle = went.shuffle;
      order = elim (cases_lt 0 (sum_by (times k) settled.places)) [
        | inl some ↦ inr (
          c,
          refl,
          tried.some some,
          subst (λ (os : List Order). IsOrderFor os k c) (all_orders is.fault orders k
              (omega (arith, some, settled.once k))) (settled.order_is k some),
        )
        | inr none ↦ inl (tried.none (omega arith)).0
      ];
    }

-- what an order broke for was at worst a link
abbrev pub IsMild : Option OrderBroken → Type 0
IsMild None = Unit {0}
IsMild (Some worst.LinkFailed) = Unit {0}
IsMild (Some worst.NoMemory) = ⊥

-- where the worse of two causes is no worse than that, neither is
pub mild_both : (a b : Option OrderBroken) → IsMild (worse a b) → IsMild a × IsMild b
mild_both None b mild = (tt, mild)
mild_both (Some worst.NoMemory) b mild = absurd mild
mild_both (Some worst.LinkFailed) None mild = (tt, tt)
mild_both (Some worst.LinkFailed) (Some why) mild = (tt, mild)

-- the worse of three causes is found in either order
worse-assoc : (a b c : Option OrderBroken) → worse (worse a b) c ≡ worse a (worse b c)
worse-assoc None b c = refl
worse-assoc (Some worst.NoMemory) b c = refl
worse-assoc (Some worst.LinkFailed) None c = refl
worse-assoc (Some worst.LinkFailed) (Some worst.NoMemory) c = refl
worse-assoc (Some worst.LinkFailed) (Some worst.LinkFailed) None = refl
worse-assoc (Some worst.LinkFailed) (Some worst.LinkFailed) (Some why) = refl

-- of a cause and others the worst is the worse of it and of the worst of those
worst-more : (why : Option OrderBroken) (others : List (Option OrderBroken))
    → fold worse why others ≡ worse why (worst_of others)
worst-more None [] = refl
worst-more (Some worst.NoMemory) [] = refl
worst-more (Some worst.LinkFailed) [] = refl
worst-more why (next ∷ rest) =
    worst-more (worse why next) rest
    ∙ worse-assoc why next (worst_of rest)
    ∙ ap (worse why) (sym (worst-more next rest))

-- where that is no worse than a link, neither is
mild_more : (why : Option OrderBroken) (others : List (Option OrderBroken)) → IsMild (fold worse why others)
    → IsMild why × IsMild (worst_of others)
mild_more why others mild = mild_both why (worst_of others) (subst IsMild (worst-more why others) mild)

-- the causes for which orders of some stores broke
abbrev whys : (ℕ → Course) → List ℕ → List (Option OrderBroken)
whys course places = map (λ c. c.why) (map course places)

-- none of the orders of these stores broke
record AllWhole (course : ℕ → Course) (places : List ℕ) : Type 0 where
  whole : All (λ k. IsWhole (course k)) places
  fails : failed_by (map course places) ≡ 0
  none : worst_of (whys course places) ≡ None

-- the last of the orders of these stores broke for its link
record LastMild (course : ℕ → Course) (places : List ℕ) : Type 0 where
  early : List ℕ
  last : ℕ
  are : places ≡ early ++ last ∷ []
  whole : All (λ k. IsWhole (course k)) early
  broke : IsBroken worst.LinkFailed (course last)
  fails : failed_by (map course places) ≡ 1

-- of the orders the last alone may have broken
abbrev AreEarly : List Course → Type 0
AreEarly courses = (i : ℕ) (d : Course) → suc i < length courses → (slice_index_or courses i d).why ≡ None

-- one link's orders
all_courses : (course : ℕ → Course) (places : List ℕ) → All IsCourse (map course places) → AreEarly (map course places)
    → IsMild (worst_of (whys course places)) → AllWhole course places ⊎ LastMild course places
all_courses course [] are early mild =
    inl (record { whole = All-nil (λ k. IsWhole (course k)); fails = refl; none = refl })
all_courses course (k ∷ ks) are early mild =
    by_why (course k).why refl (All-head IsCourse (course k) (map course ks) are) both.0
    (all_courses course ks (All-tail IsCourse (course k) (map course ks) are)
    (λ i d within. early (suc i) d (omega arith)) both.1)
  where
    both : IsMild (course k).why × IsMild (worst_of (whys course ks))
    both = mild_more (course k).why (whys course ks) mild

    -- the sends of this order that failed, and those of the others
    failed_more : failed_by (map course (k ∷ ks)) ≡ length (course k).unsent + failed_by (map course ks)
    failed_more = sum_by-cons (λ (c : Course). length c.unsent) (course k) (map course ks)

    by_why : (why : Option OrderBroken) → (course k).why ≡ why → EndedAs why (course k) → IsMild why
        → AllWhole course ks ⊎ LastMild course ks → AllWhole course (k ∷ ks) ⊎ LastMild course (k ∷ ks)
    by_why None is went mild_here (inl rest) = inl (record {
      whole = All-cons (λ k. IsWhole (course k)) k ks went rest.whole;
      fails = omega (arith, failed_more, ap length went.all, rest.fails);
      none = ap (λ (w : Option OrderBroken). fold worse w (whys course ks)) is ∙ rest.none;
    })
    by_why None is went mild_here (inr rest) = inr (record {
      early = k ∷ rest.early;
      last = rest.last;
      are = ap (λ (xs : List ℕ). k ∷ xs) rest.are;
      whole = All-cons (λ k. IsWhole (course k)) k rest.early went rest.whole;
      broke = rest.broke;
      fails = omega (arith, failed_more, ap length went.all, rest.fails);
    })
    by_why (Some worst.LinkFailed) is went mild_here rest =
        let none_more : length ks ≤ 0 = elim (cases_lt 0 (length ks)) [
          | inl more ↦ let none = early 0 (course k) (omega (arith, length-map ks course)) in absurd (cc (is, none))
          | inr nothing ↦ nothing
        ] in
        let alone : ks ≡ [] = nil_from_length ks (omega arith) in
        inr (record {
          early = [];
          last = k;
          are = ap (λ (xs : List ℕ). k ∷ xs) alone;
          whole = All-nil (λ k. IsWhole (course k));
          broke = went;
          fails = omega (arith, failed_more, went.last, ap (λ (xs : List ℕ). failed_by (map course xs)) alone);
        })
    by_why (Some worst.NoMemory) is went mild_here rest = absurd mild_here

-- the worst cause of each link's orders, and that of all of them
abbrev worsts : (ℕ → Course) → List (List ℕ) → List (Option OrderBroken)
worsts course places = map (λ ks. worst_of (map (λ c. c.why) (map course ks))) places

abbrev worst_at : (ℕ → Course) → List (List ℕ) → Option OrderBroken
worst_at course places = worst_of (worsts course places)

-- a number at the end of a list is in it
times_last : (early : List ℕ) (k : ℕ) → 0 < times k (early ++ k ∷ [])
times_last early k =
    omega (arith, sum_by-append (λ (y : ℕ). cond {A = ℕ} (eqb y k) 1 0) early (k ∷ []), cond-eqb_same k k 1 refl)

-- a store that orders name is there
named_there : (n k : ℕ) (orders : List Order) → All (λ o. o.place < n) orders → 0 < times k (places_of orders) → k < n
named_there n k [] all some = absurd (omega (arith, some))
named_there n k (o ∷ os) all some =
    let rest = sum_by-cons (λ (y : ℕ). cond {A = ℕ} (eqb y k) 1 0) o.place (places_of os) in
    elim (eqb_tells o.place k) [
      | inl same ↦ subst (λ (j : ℕ). j < n) same.1 (All-head (λ (o : Order). o.place < n) o os all)
      | inr other ↦ named_there n k os (All-tail (λ (o : Order). o.place < n) o os all)
          (omega (arith, some, rest, cond-eqb_other o.place k 1 other.1))
    ]

module _ {L : Type 0} (sent : L → List Sent) (failed : L → ℕ) (ids : List (List ℕ)) (course : ℕ → Course) where
  -- each link has its places
  tried_many : (places : List (List ℕ)) (olds news : List L) → AllTried sent failed ids course places olds news
      → length places ≡ length olds
  unfolding AllTried
  tried_many [] [] [] tried = refl
  tried_many (p ∷ ps) (o ∷ os) (n ∷ ns) tried = ap suc (tried_many ps os ns tried.1)
  tried_many places olds news tried = absurd tried

  -- what is known of one link
  record OneLink (places : List ℕ) (old new : List Sent) (before after : ℕ) : Type 0 where
    grew : new ≡ old ++ sent_by ids (map course places)
    failures : after ≡ before + failed_by (map course places)
    how : AllWhole course places ⊎ LastMild course places

  one_link : (places : List (List ℕ)) (olds news : List L) → AllTried sent failed ids course places olds news
      → IsMild (worst_at course places) → (l : ℕ) → l < length olds
      → OneLink (slice_index_or places l []) (slice_index_or (map sent olds) l []) (slice_index_or (map sent news) l [])
      (slice_index_or (map failed olds) l 0) (slice_index_or (map failed news) l 0)
  unfolding AllTried
  one_link [] [] [] tried mild l within = absurd (omega arith)
  one_link (p ∷ ps) (o ∷ os) (n ∷ ns) tried mild zero within = record {
    grew = tried.0.all;
    failures = tried.0.failures;
    how = all_courses course p tried.0.are.each tried.0.are.early
        (mild_more (worst_of (whys course p)) (worsts course ps) mild).0;
  }
  one_link (p ∷ ps) (o ∷ os) (n ∷ ns) tried mild (suc l) within =
      one_link ps os ns tried.1 (mild_more (worst_of (whys course p)) (worsts course ps) mild).1 l (omega arith)
  one_link places olds news tried mild l within = absurd tried

  -- the last order of some link broke
  some_broke : (places : List (List ℕ)) → worst_at course places ≡ Some worst.LinkFailed
      → ((l : ℕ) → l < length places → AllWhole course (slice_index_or places l [])
      ⊎ LastMild course (slice_index_or places l []))
      → (l : ℕ) × (l < length places) × LastMild course (slice_index_or places l [])
  some_broke [] is how = absurd (cc is)
  some_broke (p ∷ ps) is how = elim (how 0 (omega arith)) [
    | inl all ↦
        let found = some_broke ps (sym (ap (λ (w : Option OrderBroken). fold worse w (worsts course ps)) all.none) ∙ is)
        (λ l within. how (suc l) (omega arith)) in
        (suc found.0, omega (arith, found.1), found.2)
    | inr last ↦ (0, omega arith, last)
  ]

-- a step that a failed link halted
pub links_failed : {L : Type 0} (sent : L → List Sent) (failed : L → ℕ) (ids : List (List ℕ)) (orders : List Order)
    (before after : List State) (olds news : List L)
    → BrokenOrdersChangeNothing → All (λ o. o.place < length after) orders
    → ((k : ℕ) → k < length after → IsState (opening_at before k))
    → AllSettled sent failed ids orders (Some worst.LinkFailed) before after olds news → LinksFailed sent failed ids
    orders before after olds news
links_failed sent failed ids orders before after olds news changes there sound settled =
    let link = one_link sent failed ids settled.course settled.places olds news settled.links mild in
    record {
      settled = settled;
      many = many;
      links = λ l within.
          let one = link l within in
          record {
            grew = one.grew;
            how = elim one.how [
              | inl all ↦ inl (record { whole = all.whole; failures = omega (arith, one.failures, all.fails) })
              | inr last ↦ inr (last_broke l within _ _ one.failures last)
            ];
          };
      some =
          let found = some_broke sent failed ids settled.course settled.places settled.cause
          (λ l within. (link l (omega (arith, many, within))).how) in
          let inside : found.0 < length olds = omega (arith, many, found.1) in
          (found.0, inside, last_broke found.0 inside _ _ (link found.0 inside).failures found.2);
    }
  where
    mild : IsMild (worst_at settled.course settled.places)
    mild = subst IsMild (sym settled.cause) tt

    many : length settled.places ≡ length olds
    many = tried_many sent failed ids settled.course settled.places olds news settled.links

    last_broke : (l : ℕ) → l < length olds → (was is : ℕ) → is
        ≡ was + failed_by (map settled.course (slice_index_or settled.places l []))
        → LastMild settled.course (slice_index_or settled.places l [])
        → LastBroke settled.course (slice_index_or settled.places l []) before after was is
    last_broke l within was is rose last =
        let k = last.last in
        let c = settled.course k in
        let in_list : 0 < times k (slice_index_or settled.places l []) = subst (λ (xs : List ℕ). 0 < times k xs)
        (sym last.are) (times_last last.early k) in
        let taken : 0 < sum_by (times k) settled.places =
        omega (arith, get_or-le-sum_by (times k) settled.places l [] (omega (arith, many, within)), in_list) in
        let inside : k < length after = named_there (length after) k orders there
        (omega (arith, taken, settled.once k)) in
        let tried = settled.stores k inside in
        let order = last.broke.order in
        let kept = changes (opening_at before k) (opening_at after k) c.seat c.order.amount (c.sent ++ c.unsent) c.calls
        order tried.run in
        let legal = subst (IsLegal (opening_at before k)) order.are tried.run.legal in
        let oldest = given_oldest (opening_at before k) c.seat (c.sent ++ c.unsent) (aborted c.seat ∷ [])
        (sound k inside) legal in
        record {
          early = last.early;
          last = k;
          are = last.are;
          whole = last.whole;
          broke = last.broke;
          of = (settled.order_is k taken).place;
          failures = omega (arith, rose, last.fails);
          same = kept.0;
          newer = oldest.0;
          oldest = ◌∙◌ {c = (c.sent ++ c.unsent) ++ oldest.0} (ap (λ (s : State). s.store.content) kept.0) oldest.1;
        }

-- a step that a failed link halted
pub failed_link : {L : Type 0} (sent : L → List Sent) (failed : L → ℕ) (e : RecordingContext) (orders : List Order)
    (stop : Stop) (before after : RunState Supply L) → BrokenOrdersChangeNothing
    → All (λ o. o.place < length before.stores) orders → stop.cause ≡ LinkFailed e.step
    → IsStep sent failed e orders (Some stop) before after → FailedLink sent failed e orders before after
failed_link sent failed e orders stop before after changes there is_link is =
    let linked = (told sent failed e orders stop before after is).linked is_link in
    let none = none_early is.fault is.broken (IfSome_then is.fault is.early (λ _ nothing. nothing.0)) linked in
    let many : length is.mid ≡ length before.stores = as_many is.mid before.stores is.records.labels in
    let all : length after.stores ≡ length before.stores = as_many after.stores before.stores is.labels in
    let counted = length-map after.stores (λ (h : Held). h.state) in
    record {
      mid = is.mid;
      recorded = rw none at is.records;
      links =
          links_failed sent failed e.ids orders (states_of is.mid) (states_of after.stores) before.links after.links
          changes (rw (counted ∙ all) there)
          (λ k within. state_holds IsState is.mid is.records.sound k (omega (arith, within, counted, many, all)))
          (rw (none, linked) at is.dumps).settled;
    }
