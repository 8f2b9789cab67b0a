-- Workers that are ready, and what a step's dump leaves once they have ended.
use Rattle.mm_dump.proofs.Words
use Words.{◌≡◌, inl, inr, ℕ, ◌+◌, ◌-◌, ◌<◌, ◌≤◌, ◌^◌, ◌==◌, true, List, [], ◌∷◌, ◌++◌, length, get_or, map, filter}
use Words.{take, All, Contains, refl, sym, ap, subst, ◌∙◌, arith, sum_by, flat_map, range_with_len, Option, Some, None}
use Words.{cases_lt, ltb-true, length-map, length-append, length-take, map-append, map-id, append-nil, flat_map-append}
use Words.{length-flat_map, All-append, All-map, All-nil, All-weaker, Contains-get_or, filter-append, filter_passes}
use Words.{length-range_with_len, sum_by-append, get_or-le-sum_by, map-map, Doing, Slotted, view, sum_by-map}
use Words.{sum_by-map-filter, sum_by-same, sum_by-add, sum_by-le_each, sum_by-flat_map, sum_by_ones, sum_by_zeros}
use Words.{Entry, Held, State, IsRun, opening_at, StoreLabel, calls_on, list_at, lists_at, all_ends, end_of, AreNew}
use Words.{states_of, HaveLegalLogs, PortView, StoresView, HasLegalLog, DumpWorker, Order, OrderBroken, QueueView}
use Words.{Course, calls_at, worse, worst_of, worst_in, CarriesOut, MayDump, Sent, IsHired, IsBack, AllWorked, AreReady}
use Words.{HasWorked, causes_of, IsNewPort, IsTried, Work, calls_of, has_order, order_at, past_of, flat_map-map}
use Rattle.std.proofs.Math.ListN.{get_or-map}
use Rattle.std.proofs.lemmas.List.Folds.{fold-map, fold_stays}
use Rattle.std.proofs.lemmas.List.Sums.{fold-append}
use Rattle.mm_base.proofs.Elements.{All-unmapped}
use Rattle.mm_desk.proofs.Lone.{lone_log}
use Rattle.mm_shared.specs.declared.stores.OpenStores.{OpenStores}
use Rattle.mm_dump.proofs.Courses.{worse-alone}
use Rattle.mm_dump.proofs.Finding.{calls_on-calls_of, find, found_calls, here, lone_list}
use Rattle.mm_dump.proofs.Ordered.{weighs_first, weight_of}
use Rattle.mm_shared.proofs.Lists.{map_same}
use Rattle.mm_dump.proofs.Settled.{HaveEnded, IsLine, Line, all_of, carries_out, flat_all}

-- the workers of a step are ready
pub step_ready : {L Q A : Type 0} (sent : L → List Sent) (failed : L → ℕ)
    (queue : Slotted (Option ℕ) (Doing ℕ QueueView) Q A) (opened : OpenStores) (orders : List Order)
    (before : List Held) (many : ℕ) (links : List L) (labels : List StoreLabel) (ports : List PortView)
    (workers : List DumpWorker)
    → 0 < length links → length links ≡ many → All (λ (l : L). failed l < 2 ^ 64 - 1) links
    → All (λ (o : Order). o.place < length before) orders → AreNew before many opened
    → labels ≡ opened.labels.items → ports ≡ opened.workers.items → length workers ≡ many → All (IsHired queue) workers
    → AreReady sent failed queue opened.stores labels orders links ports workers
step_ready {L} sent failed queue opened orders before many links labels ports workers some count room places new
    labels_are ports_are workers_count hired =
    rw (labels_are, ports_are) (record {
      some = some;
      ports_count = new.count ∙ sym count;
      workers_count = workers_count ∙ sym count;
      fit = record {
        labels_are = sym new.are_open.kept.many;
        within = subst (λ (n : ℕ). All (λ (o : Order). o.place < n) orders) (sym as_many) places;
      };
      new_ports = λ i d within. record {
        of = ap (λ e. e.0.table) (new.are_open.workers i d within) ∙ new.are_open.kept.of;
        fresh = new.fresh i d within;
      };
      hired = hired;
      room = room;
    })
  where
    as_many : length opened.labels.items ≡ length before
    as_many = simp length-map at (ap length new.labels)

-- the link of a worker
abbrev line_of : {L : Type 0} → Work L → Line L
line_of w =
    record { old = w.old_link; new = w.new_link; courses = w.courses; why = w.worker.why; spent = w.worker.spent }

-- a link without a worker
abbrev idle_line : {L : Type 0} → L → Line L
idle_line link = record { old = link; new = link; courses = []; why = None; spent = 0 }

-- links without a worker have no cause
worst-idle : {L : Type 0} (whys : List (Option OrderBroken)) (idle : List L)
    → worst_of (whys ++ map (λ (x : L). (idle_line x).why) idle) ≡ worst_of whys
worst-idle {L} whys idle =
    fold-append worse None whys (map (λ (x : L). (idle_line x).why) idle)
    ∙ fold-map worse (λ (x : L). (idle_line x).why) (worst_of whys) idle
    ∙ fold_stays (λ (worst : Option OrderBroken) (x : L). worse worst None) (worst_of whys)
    (λ x. worse-alone (worst_of whys)) idle

-- the orders at a place among those of workers
here_of : {L : Type 0} (p : ℕ) (works : List (Work L))
    → here p (flat_map (λ w. w.courses) works) ≡ flat_map (λ (cs : List Course). cs) (map (λ w. here p w.courses) works)
here_of p [] = refl
here_of p (w ∷ works) =
    filter-append (λ (c : Course). c.order.place == p) w.courses (flat_map (λ v. v.courses) works)
    ∙ ap (λ (cs : List Course). here p w.courses ++ cs) (here_of p works)

-- a worker took a number at least
took_some : (why : Option OrderBroken) (courses : List Course) → worst_in courses ≡ why
    → 1 ≤ length courses + past_of why
took_some None courses cause = omega arith
took_some (Some broken) [] cause = absurd (cc cause)
took_some (Some broken) (c ∷ courses) cause = omega arith

module _ {L : Type 0} (sent : L → List Sent) (failed : L → ℕ) (ids : List (List ℕ)) (orders : List Order)
    (before : List Held) (links : List L) (may : MayDump failed orders before links)
    (after : List State) (same : length after ≡ length before) (works : List (Work L))
    (each : All (HasWorked sent failed ids orders) works)
    (fresh : All (λ w. w.old_port.list ≡ []) works) (next : ℕ)
    (total : (weight : ℕ → ℕ) → sum_by weight (range_with_len 0 next)
    ≡ sum_by (λ (w : Work L). sum_by weight (view w.worker.pass).taken) works)
    (logs : (p : ℕ) → p < length after → HasLegalLog (map (λ w. list_at w.new_port p) works)
    (opening_at (states_of before) p) (opening_at after p))
    (idle : List L) (few : 0 < length idle → length orders ≤ length works) (some : 0 < length works + length idle) where
  abbrev all : List Course
  all = flat_map (λ w. w.courses) works

  abbrev whys : List (Option OrderBroken)
  whys = map (λ w. w.worker.why) works

  -- the links, those without a worker last
  abbrev lines : List (Line L)
  lines = map line_of works ++ map idle_line idle

  lines_count : length lines ≡ length works + length idle
  lines_count = length-append (map line_of works) (map idle_line idle)
      ∙ (λ i. length-map works line_of i + length-map idle idle_line i)

  -- what they weigh
  weigh : (f : Order → ℕ) → sum_by (λ (c : Course). f c.order) all ≡ sum_by f (take next orders)
  weigh f =
      sum_by-flat_map (λ (c : Course). f c.order) (λ w. w.courses) works
      ∙ sum_by-same (λ (w : Work L). sum_by (λ (c : Course). f c.order) w.courses)
      (λ (w : Work L). sum_by (weight_of orders f) (view w.worker.pass).taken) works (λ i d inside.
      let w : Work L = get_or works i d in
      sym (sum_by-map f (λ (c : Course). c.order) w.courses) ∙ ap (sum_by f) (each i d inside).of
      ∙ sum_by-map-filter f (order_at orders) (has_order orders) (view w.worker.pass).taken)
      ∙ sym (total (weight_of orders f)) ∙ weighs_first f orders next

  -- each is one of the step's orders
  ordered : All (λ (c : Course). Contains orders c.order) all
  ordered = flat_all (λ (c : Course). Contains orders c.order) (λ w. w.courses) works (λ i d inside.
      let w : Work L = get_or works i d in
      let of = each i d inside in
      All-unmapped (Contains orders) (λ (c : Course). c.order) w.courses (subst (All (Contains orders)) (sym of.of)
      (All-map (Contains orders) (order_at orders) (filter (has_order orders) (view w.worker.pass).taken)
      (All-weaker (λ k. has_order orders k ≡ true) (λ k. Contains orders (order_at orders k))
      (λ k has. Contains-get_or orders k (record { place = 0; amount = 0 }) (ltb-true k (length orders) has))
      (filter (has_order orders) (view w.worker.pass).taken)
      (filter_passes (has_order orders) (view w.worker.pass).taken)))))

  -- what a worker's port shows of the store of a place
  list_is : (p : ℕ) → All (λ w. list_at w.new_port p ≡ calls_at p w.courses) works
  list_is p i d inside =
      let w : Work L = get_or works i d in
      ap (λ (q : PortView). list_at q p) (each i d inside).advance.port
      ∙ ap (λ (calls : List (ℕ × Entry)). calls_on p (calls ++ calls_of w.courses)) (fresh i d inside)
      ∙ calls_on-calls_of p w.courses

  -- all that happened to the store of a place is what the order found there did
  runs : (p : ℕ) → p < length after → length (here p all) ≤ 1
      → IsRun (opening_at (states_of before) p) (find p all).calls (opening_at after p)
  runs p inside alone =
      let legal = logs p inside in
      let calls : List Course → List Entry = flat_map (λ (c : Course). c.calls) in
      let heres : List (List Course) = map (λ w. here p w.courses) works in
      let one = lone_list heres (omega (arith, alone, ap length (here_of p works))) in
      let lists : map (λ w. list_at w.new_port p) works ≡ map calls heres = map_same (λ w. list_at w.new_port p)
      (λ w. calls_at p w.courses) works (list_is p) ∙ sym (map-map calls (λ w. here p w.courses) works) in
      let at : (seat : ℕ) → get_or (map (λ w. list_at w.new_port p) works) seat [] ≡ calls (get_or heres seat []) =
      λ seat. ap (λ (ls : List (List Entry)). get_or ls seat []) lists ∙ get_or-map calls heres seat [] in
      let log : legal.log ≡ (find p all).calls =
      lone_log (map (λ w. list_at w.new_port p) works) legal.log one.0 legal.shuffle
      (λ other within off. at other ∙ ap calls (one.2 other off))
      ∙ at one.0 ∙ ap calls (one.1 ∙ sym (here_of p works)) ∙ found_calls p all alone in
      subst (λ (es : List Entry). IsRun (opening_at (states_of before) p) es (opening_at after p)) log legal.run

  -- how many numbers were taken: those of orders, and one more by each worker of whose orders none broke
  counts : next ≡ sum_by (λ w. length w.courses + past_of w.worker.why) works
  counts =
      sym (sum_by_ones (range_with_len 0 next) ∙ length-range_with_len 0 next) ∙ total (λ k. 1)
      ∙ sum_by-same (λ (w : Work L). sum_by (λ (k : ℕ). 1) (view w.worker.pass).taken)
      (λ w. length w.courses + past_of w.worker.why) works
      (λ i d inside. sum_by_ones (view (get_or works i d).worker.pass).taken ∙ (each i d inside).count)

  -- where there is one more, all orders were taken
  reach : All (λ w. w.worker.why ≡ None → length orders ≤ next) works
  reach i d inside none =
      omega (
        arith,
        counts,
        sum_by-add (λ w. length w.courses) (λ w. past_of w.worker.why) works,
        length-flat_map (λ (w : Work L). w.courses) works,
        weigh (λ o. 1),
        sum_by_ones all,
        sum_by_ones (take next orders),
        length-take next orders,
        get_or-le-sum_by (λ w. past_of w.worker.why) works i d inside,
        ap past_of none,
      )

  -- and where there are as many workers as orders
  enough : length orders ≤ length works → length orders ≤ next
  enough many =
      omega (
        arith,
        many,
        counts,
        sum_by_ones works,
        sum_by-le_each (λ w. 1) (λ w. length w.courses + past_of w.worker.why) works
            (λ i d inside. took_some (get_or works i d).worker.why (get_or works i d).courses
            (each i d inside).are.cause),
      )

  -- what became of the links
  lines_are : All (IsLine sent failed ids (length orders ≤ next)) lines
  lines_are =
      let P = IsLine sent failed ids (length orders ≤ next) in
      All-append P (map line_of works) (map idle_line idle) (All-map P line_of works (λ i d inside.
      let is = each i d inside in
      record {
        all = is.advance.all;
        failures = is.advance.failures;
        blocks = omega (arith, is.advance.blocks);
        are = is.are;
        whole = reach i d inside;
      }))
      (All-map P idle_line idle (λ i d inside. record {
        all = sym (append-nil (sent (get_or idle i d)));
        failures = omega arith;
        blocks = refl;
        are = record { each = All-nil IsTried; early = λ j e within. absurd (omega (arith, within)); cause = refl };
        whole = λ none. enough (few (omega (arith, inside)));
      }))

  -- what is made of the links, from what is made of those with a worker and of those without one
  lined : {X : Type 0} (f : Line L → X) → map f lines
      ≡ map (λ w. f (line_of w)) works ++ map (λ (x : L). f (idle_line x)) idle
  lined f = map-append f (map line_of works) (map idle_line idle)
      ∙ (λ i. map-map f line_of works i ++ map-map f idle_line idle i)

  ended : HaveEnded orders (length lines) all (states_of before) after
  ended = record {
    ordered = ordered;
    next = next;
    weigh = weigh;
    runs = runs;
    enough = λ many.
        elim (cases_lt 0 (length idle)) [
          | inl unused ↦ enough (few unused)
          | inr none ↦ enough (omega (arith, many, none, lines_count))
        ];
  }

  all_is : all_of lines ≡ all
  all_is =
      flat_map-append (λ (l : Line L). l.courses) (map line_of works) (map idle_line idle)
      ∙ (λ i. flat_map-map (λ (l : Line L). l.courses) line_of works i
      ++ (flat_map-map (λ (l : Line L). l.courses) idle_line idle ∙ nothing idle) i) ∙ append-nil all
    where
      nothing : (xs : List L) → flat_map (λ (x : L). (idle_line x).courses) xs ≡ []
      nothing [] = refl
      nothing (x ∷ xs) = nothing xs

  -- so the step's dump was carried out
  pub leaves : CarriesOut sent failed ids orders (states_of before) after (map (λ w. w.old_link) works ++ idle)
      (map (λ w. w.new_link) works ++ idle) (worst_of whys) (sum_by (λ w. w.worker.spent) works)
  unfolding ended
  leaves =
      let olds = lined (λ (l : Line L). l.old) ∙ ap (λ (xs : List L). map (λ w. w.old_link) works ++ xs)
      (map-id idle) in
      let news = lined (λ (l : Line L). l.new) ∙ ap (λ (xs : List L). map (λ w. w.new_link) works ++ xs)
      (map-id idle) in
      let broke = lined (λ (l : Line L). l.why) in
      let spent : sum_by (λ l. l.spent) lines ≡ sum_by (λ w. w.worker.spent) works =
      omega (
        arith,
        sum_by-append (λ (l : Line L). l.spent) (map line_of works) (map idle_line idle),
        sum_by-map (λ (l : Line L). l.spent) line_of works,
        sum_by-map (λ (l : Line L). l.spent) idle_line idle,
        sum_by_zeros (λ (x : L). 0) idle (λ i d inside. refl),
      ) in
      let h : HaveEnded orders (length lines) (all_of lines) (states_of before) after =
      subst (λ (cs : List Course). HaveEnded orders (length lines) cs (states_of before) after) (sym all_is) ended in
      subst (λ (T : Type 0). T) (λ i. CarriesOut sent failed ids orders (states_of before) after (olds i) (news i)
      ((ap worst_of broke ∙ worst-idle whys idle) i) (spent i))
      (carries_out sent failed ids orders before links may lines (omega (arith, some, lines_count)) after same h
      lines_are)

-- without orders nothing is carried out
pub nothing : {L : Type 0} (sent : L → List Sent) (failed : L → ℕ) (ids : List (List ℕ)) (orders : List Order)
    (stores : List Held) (links : List L) → MayDump failed orders stores links
    → orders ≡ [] → CarriesOut sent failed ids orders (states_of stores) (states_of stores) links links None 0
nothing sent failed ids orders stores links may none =
    leaves sent failed ids orders stores links may (states_of stores) (length-map stores (λ h. h.state)) []
    (λ i d inside. absurd (omega (arith, inside))) (λ i d inside. absurd (omega (arith, inside)))
    0 (λ weight. refl)
    (λ p inside. record {
      log = [];
      run = record { legal = tt; leaves = refl };
      shuffle = record {
        below = λ i d within. absurd (omega (arith, within));
        parts = λ seat within. absurd (omega (arith, within));
      };
    })
    links (λ unused. omega (arith, ap length none)) (omega (arith, may.lowest))

-- a step's workers, once they have ended
module _ {L Q A : Type 0} (sent : L → List Sent) (failed : L → ℕ) (queue : Slotted (Option ℕ) (Doing ℕ QueueView) Q A)
    (ids : List (List ℕ)) (orders : List Order)
    (old_links new_links : List L) (old_ports new_ports : List PortView) (workers : List DumpWorker)
    (w : AllWorked sent failed queue ids orders old_links new_links old_ports new_ports workers) where
  -- their ports are where they were
  pub ends_same : all_ends new_ports ≡ all_ends old_ports
  ends_same =
      ap all_ends (sym w.new_ports_are) ∙ map-map end_of (λ (v : Work L). v.new_port) w.works
      ∙ map_same (λ (v : Work L). end_of v.new_port) (λ v. end_of v.old_port) w.works
      (λ i d inside. ap end_of (w.each i d inside).advance.port)
      ∙ sym (map-map end_of (λ (v : Work L). v.old_port) w.works) ∙ ap all_ends w.old_ports_are

  pub all_back : All (IsBack queue) workers
  all_back = subst (All (IsBack queue)) w.workers_are (All-map (IsBack queue) (λ (v : Work L). v.worker) w.works w.back)

  -- what they leave, where other links had no worker
  pub step_leaves : (before : List Held) (links : List L) → MayDump failed orders before links → (stores : StoresView)
      → All (IsNewPort stores) old_ports → (after : List State) → length after ≡ length before
      → HaveLegalLogs new_ports (states_of before) after → (next : ℕ)
      → ((weight : ℕ → ℕ) → sum_by weight (range_with_len 0 next)
      ≡ sum_by (λ (d : DumpWorker). sum_by weight (view d.pass).taken) workers)
      → (idle : List L) → (0 < length idle → length orders ≤ length old_links) → 0 < length old_links
      → CarriesOut sent failed ids orders (states_of before) after (old_links ++ idle) (new_links ++ idle)
      (worst_of (causes_of workers)) (sum_by (λ (d : DumpWorker). d.spent) workers)
  step_leaves before links may stores new after same logs next total idle few some =
      let summed : (f : DumpWorker → ℕ) → sum_by (λ (v : Work L). f v.worker) w.works ≡ sum_by f workers =
      λ f. sym (sum_by-map f (λ (v : Work L). v.worker) w.works) ∙ ap (sum_by f) w.workers_are in
      let count : length w.works ≡ length old_links = sym (length-map w.works (λ (v : Work L). v.old_link))
      ∙ ap length w.old_links_are in
      let fresh : PortView → Type 0 = λ q. q.list ≡ [] in
      let causes = ap worst_of (sym (map-map (λ (d : DumpWorker). d.why) (λ (v : Work L). v.worker) w.works)
      ∙ ap causes_of w.workers_are) in
      subst (λ (T : Type 0). T)
      (λ i. CarriesOut sent failed ids orders (states_of before) after (w.old_links_are i ++ idle)
      (w.new_links_are i ++ idle) (causes i) (summed (λ (d : DumpWorker). d.spent) i))
      (leaves sent failed ids orders before links may after same w.works w.each
      (All-unmapped fresh (λ (v : Work L). v.old_port) w.works
      (subst (All fresh) (sym w.old_ports_are) (λ i d inside. (new i d inside).fresh))) next
      (λ weight. total weight ∙ sym (summed (λ (d : DumpWorker). sum_by weight (view d.pass).taken)))
      (λ p inside. subst (λ ls. HasLegalLog ls (opening_at (states_of before) p) (opening_at after p))
      (ap (lists_at p) (sym w.new_ports_are) ∙ map-map (λ (q : PortView). list_at q p)
      (λ (v : Work L). v.new_port) w.works) (logs p inside))
      idle (λ unused. omega (arith, few unused, count)) (omega (arith, some, count)))
