-- What the orders of a step want of each store.
use Rattle.mm_carry.proofs.Words
use Words.{lt-ltb, le-ltb, ltb-true, ltb-false, ne_eqb, eq-eqb, cond_both, length-map, map-append, append-nil, All-map}
use Words.{filter-append, length-range_with_len, filter_fewer, sum_by, range_with_len, filter, slice_index, nat_lt}
use Words.{AllPairs-map, sum_by_range_one, sum_by_range_same, All-filter-range_with_len, AllPairs-filter-range_with_len}
use Words.{range_with_len_more, sum_by-filter, sum_by-map, sum_by-map-filter, MAX_STORES, in_step, Amounts, wanted}
use Words.{times, places_of, Order, orders_of, AreApart, RunInput, place_in_memory, step_orders, AreOrders, ◌≡◌, ◌≢◌, ℕ}
use Words.{◌<◌, ◌≤◌, Bool, cond, ltb, eqb, List, [], ◌∷◌, length, map, refl, sym, subst, ◌∙◌, arith, ◌+◌, ◌++◌, ap}
use Words.{add-one, map_same}

module _ (x : Amounts) (places : List ℕ) (t : ℕ) where
  -- whether a store has an order, and the order
  abbrev pub is_ordered : ℕ → Bool
  is_ordered s = nat_lt 0 (x s t)

  abbrev pub order_of : ℕ → Order
  order_of s = record { place = slice_index places s; amount = x s t }

  -- one store more
  listed : (n : ℕ) → orders_of x places t (n + 1) ≡ orders_of x places t n ++ map order_of (filter is_ordered (n ∷ []))
  listed n =
      let before = range_with_len 0 n in
      let more : range_with_len 0 (n + 1) ≡ before ++ n ∷ [] = rw add-one (range_with_len_more 0 n n (omega arith)) in
      ap (λ (ss : List ℕ). map order_of (filter is_ordered ss)) more
      ∙ ap (map order_of) (filter-append is_ordered before (n ∷ []))
      ∙ map-append order_of (filter is_ordered before) (filter is_ordered (n ∷ []))

  -- a store from which packets are to leave has an order
  pub order_more : (n : ℕ) → 0 < x n t → orders_of x places t (n + 1) ≡ orders_of x places t n ++ order_of n ∷ []
  order_more n some =
      let yes : filter is_ordered (n ∷ []) ≡ n ∷ [] = rw (lt-ltb 0 (x n t) some) refl in
      listed n ∙ ap (λ (ss : List ℕ). orders_of x places t n ++ map order_of ss) yes

  -- another has none
  pub order_none : (n : ℕ) → x n t ≤ 0 → orders_of x places t (n + 1) ≡ orders_of x places t n
  order_none n none =
      let no : filter is_ordered (n ∷ []) ≡ [] = rw (le-ltb 0 (x n t) none) refl in
      listed n ∙ ap (λ (ss : List ℕ). orders_of x places t n ++ map order_of ss) no
      ∙ append-nil (orders_of x places t n)

  -- there are no more orders than stores
  pub orders_few : (n : ℕ) → length (orders_of x places t n) ≤ n
  orders_few n =
      let all = range_with_len 0 n in
      omega (arith, length-map (filter is_ordered all) order_of, filter_fewer is_ordered all, length-range_with_len 0 n)

-- an amount that is counted where there is one
amount_counted : (amount : ℕ) → cond (ltb 0 amount) amount 0 ≡ amount
amount_counted amount =
    cond_both (ltb 0 amount) amount 0 (λ (k : ℕ). k ≡ amount) (λ some. refl) (λ nothing. let none = ltb-false 0 amount
    nothing in omega (arith))

module _ (x : Amounts) (places : List ℕ) (t n : ℕ) where
  -- the sum of the terms of one store
  one_term : (weight : ℕ → ℕ) (s : ℕ) → AreApart places n → s < n
      → sum_by (λ r. cond (is_ordered x places t r) (cond (eqb (slice_index places r) (slice_index places s)) (weight r)
      0) 0) (range_with_len 0 n)
      ≡ cond (is_ordered x places t s) (weight s) 0
  one_term weight s apart within =
      sum_by_range_one (λ r. cond (is_ordered x places t r) (cond (eqb (slice_index places r) (slice_index places s))
      (weight r) 0) 0) 0 n s (omega arith) (omega arith)
      (λ r from to other. rw (ne_eqb (slice_index places r) (slice_index places s)
      (apart r s (omega arith) within other))
      (cond_both (is_ordered x places t r) 0 0 (λ (k : ℕ). k ≡ 0) (λ yes. refl) (λ no. refl)))
      ∙ rw (eq-eqb (slice_index places s) (slice_index places s) refl) refl

  -- the orders want of a store what is to leave it
  pub wanted_is : (s : ℕ) → AreApart places n → s < n → wanted (orders_of x places t n) (slice_index places s) ≡ x s t
  wanted_is s apart within =
      sum_by-filter (λ (o : Order). o.amount) (λ o. eqb o.place (slice_index places s)) (orders_of x places t n)
      ∙ sum_by-map-filter (λ (o : Order). cond (eqb o.place (slice_index places s)) o.amount 0) (order_of x places t)
      (is_ordered x places t) (range_with_len 0 n) ∙ one_term (λ r. x r t) s apart within ∙ amount_counted (x s t)

  -- no store has two orders
  pub named_once : (s : ℕ) → AreApart places n → s < n → times (slice_index places s)
      (places_of (orders_of x places t n)) ≤ 1
  named_once s apart within =
      let here : ℕ → ℕ = λ p. cond {A = ℕ} (eqb p (slice_index places s)) 1 0 in
      let named = sum_by-map here (λ (o : Order). o.place) (orders_of x places t n)
      ∙ sum_by-map-filter (λ (o : Order). here o.place) (order_of x places t) (is_ordered x places t)
      (range_with_len 0 n) ∙ one_term (λ r. 1) s apart within in
      subst (λ (k : ℕ). k ≤ 1) (sym named) (cond_both (is_ordered x places t s) 1 0 (λ (k : ℕ). k ≤ 1)
      (λ yes. omega arith) (λ no. omega arith))

  -- the orders want of all stores what is to leave them
  pub wanted_in_all : sum_by (λ (o : Order). o.amount) (orders_of x places t n) ≡ sum_by (in_step x t)
      (range_with_len 0 n)
  wanted_in_all =
      sum_by-map-filter (λ (o : Order). o.amount) (order_of x places t) (is_ordered x places t) (range_with_len 0 n)
      ∙ sum_by_range_same (λ s. cond (is_ordered x places t s) (x s t) 0) (in_step x t) 0 n
      (λ s from to. amount_counted (x s t))

  -- the orders may be carried out: each is of a store that is there, of one packet or more, and no two are of one store
  pub may_order : (many : ℕ) → n ≤ MAX_STORES → ((s : ℕ) → s < n → slice_index places s < many) → AreApart places n
      → AreOrders many (orders_of x places t n)
  may_order many few within apart =
      let order = order_of x places t in
      let ordered = is_ordered x places t in
      let stores = filter ordered (range_with_len 0 n) in
      record {
        few = omega (arith, orders_few x places t n, few);
        places =
            All-map (λ (o : Order). o.place < many) order stores
            (All-filter-range_with_len (λ (s : ℕ). slice_index places s < many) ordered 0 n
            (λ s from to passes. within s (omega arith)));
        some =
            All-map (λ (o : Order). 1 ≤ o.amount) order stores
            (All-filter-range_with_len (λ (s : ℕ). 1 ≤ x s t) ordered 0 n (λ s from to passes. ltb-true 0 (x s t)
            passes));
        apart =
            AllPairs-map (λ (a b : Order). a.place ≢ b.place) order stores
            (AllPairs-filter-range_with_len (λ (r s : ℕ). slice_index places r ≢ slice_index places s) ordered 0 n
            (λ r s from before to one other. apart r s (omega arith) (omega arith) (λ same. omega (arith, same))));
      }

-- the orders of a run, for stores at their places
pub orders_are : (m : RunInput) (places : List ℕ) (t : ℕ) → ((s : ℕ) → s < length m.problem.rows → slice_index places s
    ≡ place_in_memory m s)
    → orders_of m.amounts places t (length m.problem.rows) ≡ step_orders m t
orders_are m places t stands =
    let there : ℕ → Order = λ s. record { place = place_in_memory m s; amount = m.amounts s t } in
    map_same (order_of m.amounts places t) there (filter (is_ordered m.amounts places t)
    (range_with_len 0 (length m.problem.rows)))
    (All-filter-range_with_len (λ (s : ℕ). order_of m.amounts places t s ≡ there s) (is_ordered m.amounts places t) 0
    (length m.problem.rows)
    (λ s from to passes. let is = stands s (omega arith) in λ i. record { place = is i; amount = m.amounts s t }))
