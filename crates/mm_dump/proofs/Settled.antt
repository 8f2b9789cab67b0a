-- What a step's dump leaves, from what was carried out over each link and what became of the stores.
use Rattle.mm_dump.proofs.Words
use Words.{◌≡◌, ℕ, ◌+◌, ◌<◌, ◌≤◌, ◌==◌, List, [], ◌∷◌, ◌++◌, length, get_or, map, take, All, Contains, sym, ap, subst}
use Words.{◌∙◌, length-append, arith, sum_by, flat_map, Option, None, get_or-map, length-map, take_all, length-flat_map}
use Words.{All-nil, All-cons, All-head, All-tail, All-append, All-contains, All-map, sum_by-take-le, length-filter}
use Words.{map-map, All-front, All-back, sum_by-map, sum_by-same, sum_by-add, sum_by-le_each, sum_by-flat_map, Stored}
use Words.{Held, State, IsRun, opening_at, id_at, states_of, Order, OrderBroken, Course, IsCourse, AreCourses, worst_of}
use Words.{worst_in, sent_by, failed_by, spent_by, MayDump, AllKept, HasTaken, HasTried, IsOrderFor, AllSettled}
use Words.{AllTaken, CarriesOut, amount_of, taken_at, times, used_by, wanted, Sent, all_sent, IsTried, map_fixed}
use Rattle.mm_shared.proofs.Lists.{map_same}
use Rattle.mm_dump.specs.Dumped.{AllTried}
use Rattle.mm_dump.proofs.Courses.{course_few, none_broke}
use Rattle.mm_dump.proofs.Finding.{find, found_again, here, is_found, none_found}
use Rattle.mm_dump.proofs.Ordered.{named_once, names, times_named, wanted_own}

-- what holds of each element of each list, and of all of them
pub flat_all : {X Y : Type 0} (P : X → Type 0) (make : Y → List X) (ys : List Y) → All (λ y. All P (make y)) ys
    → All P (flat_map make ys)
flat_all P make [] all = All-nil P
flat_all P make (y ∷ ys) all =
    All-append P (make y) (flat_map make ys) (All-head (λ z. All P (make z)) y ys all)
    (flat_all P make ys (All-tail (λ z. All P (make z)) y ys all))

all_flat : {X Y : Type 0} (P : X → Type 0) (make : Y → List X) (ys : List Y) → All P (flat_map make ys)
    → All (λ y. All P (make y)) ys
all_flat P make [] all = All-nil (λ y. All P (make y))
all_flat P make (y ∷ ys) all =
    All-cons (λ z. All P (make z)) y ys (All-front P (make y) (flat_map make ys) all)
    (all_flat P make ys (All-back P (make y) (flat_map make ys) all))

-- what orders sent, and what failed, is what they spent
spent_is : (ids : List (List ℕ)) (cs : List Course) → length (sent_by ids cs) + failed_by cs ≡ spent_by cs
spent_is ids cs =
    let sends : Course → List Sent = λ c. all_sent (id_at ids c.order.place) c.sent in
    omega (
      arith,
      length-flat_map sends cs,
      sum_by-same (λ (c : Course). length (sends c)) (λ (c : Course). length c.sent) cs
          (λ i d inside. length-map (get_or cs i d).sent
          (λ (p : Stored). record { store = id_at ids (get_or cs i d).order.place; stored = p })),
      sum_by-add (λ (c : Course). length c.sent) (λ (c : Course). length c.unsent) cs,
    )

-- a link before and after orders were carried out over it, these orders, why the last one broke, if it broke, and how
-- many blocks they spent
pub record Line (L : Type 0) : Type 0 where
  pub old : L
  pub new : L
  pub courses : List Course
  pub why : Option OrderBroken
  pub spent : ℕ

-- a link took what these orders sent, and its failures rose; where none of its orders broke, all of the step were taken
pub record IsLine {L : Type 0} (sent : L → List Sent) (failed : L → ℕ) (ids : List (List ℕ)) (all_taken : Type 0)
    (l : Line L) : Type 0 where
  pub all : sent l.new ≡ sent l.old ++ sent_by ids l.courses
  pub failures : failed l.new ≡ failed l.old + failed_by l.courses
  pub blocks : l.spent ≡ spent_by l.courses
  pub are : AreCourses IsTried l.why l.courses
  pub whole : l.why ≡ None → all_taken

-- all orders that were carried out
abbrev pub all_of : {L : Type 0} → List (Line L) → List Course
all_of lines = flat_map (λ l. l.courses) lines

-- what is known once all workers have ended: the first orders were carried out, up to some number; what happened to
-- each store; and all orders were taken where there is a link for each
pub record HaveEnded (orders : List Order) (links : ℕ) (all : List Course) (before after : List State) : Type 0 where
  pub ordered : All (λ (c : Course). Contains orders c.order) all
  pub next : ℕ
  pub weigh : (f : Order → ℕ) → sum_by (λ (c : Course). f c.order) all ≡ sum_by f (take next orders)
  pub runs : (p : ℕ) → p < length after → length (here p all) ≤ 1
      → IsRun (opening_at before p) (find p all).calls (opening_at after p)
  pub enough : length orders ≤ links → length orders ≤ next

module _ {L : Type 0} (sent : L → List Sent) (failed : L → ℕ) (ids : List (List ℕ)) where
  -- each link has sent what it had sent before
  all_kept : (all_taken : Type 0) (lines : List (Line L)) → All (IsLine sent failed ids all_taken) lines
      → AllKept sent failed (map (λ l. l.old) lines) (map (λ l. l.new) lines)
  all_kept all_taken [] each = tt
  all_kept all_taken (l ∷ lines) each =
      let is = All-head (IsLine sent failed ids all_taken) l lines each in (
        record { more = sent_by ids l.courses; all = is.all; failures = omega (arith, is.failures) },
        all_kept all_taken lines (All-tail (IsLine sent failed ids all_taken) l lines each),
      )

  -- the places of the orders of a link
  abbrev spots : Line L → List ℕ
  spots l = map (λ (c : Course). c.order.place) l.courses

  module _ (course : ℕ → Course) where
    -- a link did what the orders at its places did
    abbrev Tried : Line L → Type 0
    Tried l = HasTaken sent failed ids (map course (spots l)) l.old l.new

    all_tried : (lines : List (Line L)) → All Tried lines
        → AllTried sent failed ids course (map spots lines) (map (λ l. l.old) lines) (map (λ l. l.new) lines)
    unfolding AllTried
    all_tried [] each = tt
    all_tried (l ∷ lines) each = (All-head Tried l lines each, all_tried lines (All-tail Tried l lines each))

  module _ (orders : List Order) (stores : List Held) (links : List L) (may : MayDump failed orders stores links)
      (lines : List (Line L)) (some : 0 < length lines) (after : List State) (same : length after ≡ length stores)
      (h : HaveEnded orders (length lines) (all_of lines) (states_of stores) after)
      (each : All (IsLine sent failed ids (length orders ≤ h.next)) lines) where
    abbrev before : List State
    before = states_of stores

    abbrev all : List Course
    all = all_of lines

    -- the order carried out at a place
    abbrev course : ℕ → Course
    course p = find p all

    abbrev places : List (List ℕ)
    places = map spots lines

    -- no place has more orders than name it, and as many where all were taken
    tally_is : (p : ℕ) → length (here p all) ≡ sum_by (names p) (take h.next orders)
    tally_is p = length-filter (λ (c : Course). c.order.place == p) all ∙ h.weigh (names p)

    few : (p : ℕ) → length (here p all) ≤ 1
    few p = omega (arith, tally_is p, sum_by-take-le (names p) orders h.next, named_once p orders may.distinct)

    tally_all : length orders ≤ h.next → (p : ℕ) → length (here p all) ≡ sum_by (names p) orders
    tally_all reach p = tally_is p ∙ ap (sum_by (names p)) (take_all h.next orders reach)

    -- all were taken where the orders of some link did not break, and where none broke
    left : All (λ (why : Option OrderBroken). why ≡ None → length orders ≤ h.next) (map (λ l. l.why) lines)
    left =
        All-map (λ (why : Option OrderBroken). why ≡ None → length orders ≤ h.next) (λ (l : Line L). l.why) lines
        (λ i d inside. (each i d inside).whole)

    full : worst_of (map (λ l. l.why) lines) ≡ None → length orders ≤ h.next
    full none =
        let inside : 0 < length (map (λ (l : Line L). l.why) lines) =
        omega (arith, some, length-map lines (λ (l : Line L). l.why)) in
        let each_none = All-map (λ (why : Option OrderBroken). why ≡ None) (λ (l : Line L). l.why) lines
        (none_broke (λ (l : Line L). l.why) lines none) in
        left 0 None inside (each_none 0 None inside)

    -- how often a place stands among those of the links
    taken_is : (p : ℕ) → taken_at places p ≡ length (here p all)
    taken_is p =
        sum_by-map (times p) spots lines
        ∙ sum_by-same (λ l. times p (spots l)) (λ l. sum_by (λ (c : Course). names p c.order) l.courses) lines
        (λ i d inside. sum_by-map _ (λ (c : Course). c.order.place) (get_or lines i d).courses)
        ∙ sym (length-filter (λ (c : Course). c.order.place == p) all
        ∙ sum_by-flat_map (λ (c : Course). names p c.order) (λ l. l.courses) lines)

    once_all : length orders ≤ h.next → AllTaken orders places
    once_all reach p = taken_is p ∙ tally_all reach p ∙ sym (times_named p orders)

    -- each order is found at its place
    at : All (λ (c : Course). course c.order.place ≡ c) all
    at = found_again all few

    -- so it is whole, or it broke
    known : All IsCourse all
    known i d inside =
        let c : Course = get_or all i d in
        let p : ℕ = c.order.place in
        let of = h.ordered i d inside in
        let tried = flat_all IsTried (λ l. l.courses) lines (λ j e within. (each j e within).are.each) i d inside in
        let within = All-contains (λ (o : Order). o.place < length stores) orders c.order may.places of in
        let idle =
        All-contains (λ (o : Order). (opening_at before o.place).retrieval ≡ None) orders c.order may.idle of in
        tried.alone (opening_at before p) (opening_at after p) idle
        (subst (λ (e : Course). IsRun (opening_at before p) e.calls (opening_at after p)) (at i d inside)
        (h.runs p (omega (arith, within, same)) (few p)))

    -- it is the order for its place
    order_is : (p : ℕ) → 0 < taken_at places p → IsOrderFor orders p (course p)
    order_is p has =
        let of = is_found (λ (c : Course). Contains orders c.order) p all h.ordered (omega (arith, has, taken_is p)) in
        let own = wanted_own orders may.distinct in
        record {
          place = of.0;
          amount = sym (All-contains (λ (o : Order). wanted orders o.place ≡ o.amount) orders (course p).order own of.1)
              ∙ ap (wanted orders) of.0;
          some = All-contains (λ (o : Order). 1 ≤ o.amount) orders (course p).order may.amounts of.1;
        }

    tried : (p : ℕ) → p < length after
        → HasTried (taken_at places p) (course p) (opening_at before p) (opening_at after p)
    tried p inside = record {
      run = h.runs p inside (few p);
      none = λ none.
          let nothing = none_found p all (sym (taken_is p) ∙ none) in
          (ap (λ (c : Course). c.calls) nothing, ap (λ (c : Course). c.sent) nothing);
      some = λ has. (is_found IsCourse p all known (omega (arith, has, taken_is p))).1;
    }

    -- the orders of a link, from their places
    again : All (λ l. map course (spots l) ≡ l.courses) lines
    again i d inside =
        let cs : List Course = (get_or lines i d).courses in
        map-map course (λ (c : Course). c.order.place) cs ∙ map_fixed (λ (c : Course). course c.order.place) cs
        (all_flat (λ (c : Course). course c.order.place ≡ c) (λ l. l.courses) lines at i d inside)

    taken : All (Tried course) lines
    taken i d inside =
        let l : Line L = get_or lines i d in
        let is = each i d inside in
        subst (λ (cs : List Course). HasTaken sent failed ids cs l.old l.new) (sym (again i d inside))
        (record {
          all = is.all;
          failures = is.failures;
          why = l.why;
          are = record {
            each = all_flat IsCourse (λ l. l.courses) lines known i d inside;
            early = is.are.early;
            cause = is.are.cause;
          };
        })

    -- why the last order of each link broke, where it did
    causes_same : map (λ (ks : List ℕ). worst_in (map course ks)) places ≡ map (λ l. l.why) lines
    causes_same =
        map-map (λ (ks : List ℕ). worst_in (map course ks)) spots lines
        ∙ map_same (λ l. worst_in (map course (spots l))) (λ l. l.why) lines
        (λ i d inside. ap worst_in (again i d inside) ∙ (each i d inside).are.cause)

    settled : AllSettled sent failed ids orders (worst_of (map (λ l. l.why) lines)) before after
        (map (λ l. l.old) lines) (map (λ l. l.new) lines)
    settled = record {
      course = course;
      places = places;
      stores = tried;
      order_is = order_is;
      once = λ k. omega (arith, taken_is k, tally_is k, sum_by-take-le (names k) orders h.next, times_named k orders);
      all = λ whole. once_all (full whole);
      others = λ one.
          let unbroken = ap (λ (whys : List (Option OrderBroken)). get_or whys one.0 None) (sym causes_same)
          ∙ get_or-map (λ (ks : List ℕ). worst_in (map course ks)) places one.0 one.1 None one.2
          ∙ ap (λ (ks : List ℕ). worst_in (map course ks)) one.3 ∙ one.4 in
          once_all (left one.0 None
          (omega (arith, one.2, length-map lines spots, length-map lines (λ (l : Line L). l.why))) unbroken);
      links = all_tried course lines taken;
      cause = ap worst_of causes_same;
    }

    -- what links were used for is what was spent, which is no more than the orders want
    used_is : used_by sent failed (map (λ l. l.new) lines)
        ≡ used_by sent failed (map (λ l. l.old) lines) + sum_by (λ l. l.spent) lines
    used_is =
        let uses : L → ℕ = λ k. length (sent k) + failed k in
        sum_by-map uses (λ (l : Line L). l.new) lines
        ∙ sum_by-same (λ l. uses l.new) (λ l. uses l.old + l.spent) lines (λ i d inside.
        let l : Line L = get_or lines i d in
        let is = each i d inside in
        let more = length-append (sent l.old) (sent_by ids l.courses) in
        omega (arith, ap length is.all, more, is.failures, spent_is ids l.courses, is.blocks))
        ∙ sum_by-add (λ l. uses l.old) (λ l. l.spent) lines
        ∙ ap (λ (n : ℕ). n + sum_by (λ l. l.spent) lines) (sym (sum_by-map uses (λ (l : Line L). l.old) lines))

    spent_few : sum_by (λ l. l.spent) lines ≤ amount_of orders
    spent_few =
        omega (
          arith,
          sum_by-le_each (λ l. l.spent) (λ l. sum_by (λ (c : Course). c.order.amount) l.courses) lines (λ i d inside.
              let is = each i d inside in
              let cs : List Course = (get_or lines i d).courses in
              let few : All (λ (c : Course). length c.sent + length c.unsent ≤ c.order.amount) cs =
              λ j e within. course_few (get_or cs j e)
              (all_flat IsCourse (λ l. l.courses) lines known i d inside j e within) in
              let all = sum_by-le_each (λ (c : Course). length c.sent + length c.unsent) (λ c. c.order.amount) cs few in
              omega (arith, is.blocks, all)),
          sum_by-flat_map (λ (c : Course). c.order.amount) (λ (l : Line L). l.courses) lines,
          h.weigh (λ (o : Order). o.amount),
          sum_by-take-le (λ (o : Order). o.amount) orders h.next,
        )

    -- and so the step
    pub carries_out : CarriesOut sent failed ids orders before after (map (λ l. l.old) lines) (map (λ l. l.new) lines)
        (worst_of (map (λ l. l.why) lines)) (sum_by (λ l. l.spent) lines)
    unfolding settled
    carries_out = record {
      settled = settled;
      enough = λ many. once_all (h.enough (omega (arith, many, length-map lines (λ (l : Line L). l.old))));
      kept = all_kept (length orders ≤ h.next) lines each;
      used = used_is;
      within = spent_few;
    }
