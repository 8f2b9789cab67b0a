-- A worker at work: the orders that it carried out so far, and one more.
use Rattle.mm_dump.proofs.Words.{◌≡◌, ℕ, ◌+◌, ◌<◌, ◌≤◌, Bool, true, false, cond, List, [], ◌∷◌, ◌++◌, length, map}
use Rattle.mm_dump.proofs.Words.{filter, refl, sym, ap, ◌∙◌, length-append, arith, Option, Some, None, is_some, lt-ltb}
use Rattle.mm_dump.proofs.Words.{le-ltb, append-nil, map-append, get_or_append_left, flat_map_more, sum_by_push}
use Rattle.mm_dump.proofs.Words.{All-nil, All-push, filter-append, Entry, id_at, Order, OrderBroken, Course, worse}
use Rattle.mm_dump.proofs.Words.{worst_of, Progress, OrderCarriedOut, course_of, PortView, with_calls, Sent, all_sent}
use Rattle.mm_dump.proofs.Words.{IsTried, order_at, has_order, past_of, Worked}
use Rattle.std.proofs.lemmas.List.Sums.{fold_push}
use Rattle.mm_dump.proofs.Courses.{none_broke}

-- at the start no order was taken
pub worked_start : (ids : List (List ℕ)) (orders : List Order) (taken : List ℕ) (a b : Progress) → taken ≡ []
    → b.port ≡ a.port → b.sent ≡ a.sent → b.failed ≡ a.failed → b.spent ≡ a.spent
    → Worked ids orders taken 0 None a b []
worked_start ids orders taken a b none port sent failed spent = record {
  of = ap (λ (ks : List ℕ). map (order_at orders) (filter (has_order orders) ks)) (sym none);
  count = ap length none;
  are = record { each = All-nil IsTried; early = λ i d within. absurd (omega (arith, within)); cause = refl };
  advance = record {
    port = port ∙ ap (λ (calls : List (ℕ × Entry)). record a.port { list = calls }) (sym (append-nil a.port.list));
    all = sent ∙ sym (append-nil a.sent);
    failures = omega (arith, failed);
    blocks = omega (arith, spent);
  };
}

module _ (ids : List (List ℕ)) (orders : List Order) (taken all : List ℕ) (number : ℕ) (a b : Progress)
    (courses : List Course) (more : all ≡ taken ++ number ∷ [])
    (worked : Worked ids orders taken 0 None a b courses) where
  -- the numbers of orders among those taken
  numbers : (t : Bool) → has_order orders number ≡ t
      → filter (has_order orders) all ≡ filter (has_order orders) taken ++ cond t (number ∷ []) []
  numbers t is =
      ap (filter (has_order orders)) more ∙ filter-append (has_order orders) taken (number ∷ [])
      ∙ ap (λ (t : Bool). filter (has_order orders) taken ++ cond t (number ∷ []) []) is

  count_more : length all ≡ length taken + 1
  count_more = omega (arith, ap length more, length-append taken (number ∷ []))

  -- a number that no order has was taken
  pub worked_past : length orders ≤ number → Worked ids orders all 1 None a b courses
  worked_past past = record {
    of = worked.of ∙ ap (map (order_at orders))
        (sym (numbers false (le-ltb number (length orders) past) ∙ append-nil (filter (has_order orders) taken)));
    count = omega (arith, count_more, worked.count);
    are = worked.are;
    advance = worked.advance;
  }

  -- one order more, which broke for this cause, where there is one
  pub worked_more : (order : Order) (why : Option OrderBroken) (c : Progress) → number < length orders
      → order ≡ order_at orders number → OrderCarriedOut ids order why b c
      → (courses : List Course) × Worked ids orders all 0 why a c courses
  worked_more order why c inside at carried =
      let went = carried.advance in
      let course : Course = course_of order why carried.sent carried.unsent b.port.number carried.calls in
      let unsent = sum_by_push (λ (d : Course). length d.unsent) courses course in
      let spent = sum_by_push (λ (d : Course). length d.sent + length d.unsent) courses course in (
        courses ++ course ∷ [],
        record {
          of = map-append (λ (d : Course). d.order) courses (course ∷ []) ∙ (λ i. worked.of i ++ at i ∷ [])
              ∙ sym (ap (map (order_at orders)) (numbers true (lt-ltb number (length orders) inside))
              ∙ map-append (order_at orders) (filter (has_order orders) taken) (number ∷ []));
          count = omega (arith, count_more, worked.count, length-append courses (course ∷ []));
          are = record {
            each = All-push IsTried courses course worked.are.each carried.tried;
            early = λ i d within.
                let before : i < length courses = omega (arith, within, length-append courses (course ∷ [])) in
                ap (λ (d : Course). d.why) (get_or_append_left courses (course ∷ []) d i before)
                ∙ none_broke (λ (d : Course). d.why) courses worked.are.cause i d before;
            cause = ap worst_of (map-append (λ (d : Course). d.why) courses (course ∷ []))
                ∙ fold_push worse None (map (λ (d : Course). d.why) courses) why
                ∙ ap (λ (worst : Option OrderBroken). worse worst why) worked.are.cause;
          };
          advance = record {
            port = went.port
                ∙ ap (λ (p : PortView). with_calls order.place p carried.calls) worked.advance.port
                ∙ ap (λ (calls : List (ℕ × Entry)). record a.port { list = calls })
                (flat_map_more (λ (d : Course). map (λ (e : Entry). (d.order.place, e)) d.calls) a.port.list
                courses course);
            all = went.all
                ∙ ap (λ (xs : List Sent). xs ++ all_sent (id_at ids order.place) carried.sent) worked.advance.all
                ∙ flat_map_more (λ (d : Course). all_sent (id_at ids d.order.place) d.sent) a.sent courses course;
            failures = omega (arith, went.failures, worked.advance.failures, unsent);
            blocks = omega (arith, went.blocks, worked.advance.blocks, spent);
          };
        },
      )

-- a worker of which an order broke took no number that no order has
pub worked_stopped : (ids : List (List ℕ)) (orders : List Order) (taken : List ℕ) (why : Option OrderBroken)
    (a b : Progress) (courses : List Course) → is_some why ≡ true → Worked ids orders taken 0 why a b courses
    → Worked ids orders taken (past_of why) why a b courses
worked_stopped ids orders taken None a b courses some_why worked = absurd (cc some_why)
worked_stopped ids orders taken (Some why) a b courses some_why worked = worked
