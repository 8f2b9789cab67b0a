-- Orders of which no two name one place, and what the numbers weigh that were taken of them.
use Rattle.mm_dump.proofs.Words.{◌≡◌, ◌≢◌, inl, inr, ℕ, zero, suc, ◌+◌, ◌<◌, ◌≤◌, Bool, true, false, cond, eqb, List}
use Rattle.mm_dump.proofs.Words.{[], ◌∷◌, All, refl, sym, ap, ◌∙◌, arith, ◌==◌, length, get_or, filter, take, AllPairs}
use Rattle.mm_dump.proofs.Words.{sum_by, range_with_len, cases_lt, lt-ltb, le-ltb, eq-eqb, ne_eqb, eqb_tells, take_all}
use Rattle.mm_dump.proofs.Words.{nil_from_length, sum_by-cons, sum_by_more, length-filter, sum_by_range_more}
use Rattle.mm_dump.proofs.Words.{sum_by-map, sum_by-le_one, Order, order_at, has_order, wanted, times, places_of}
use Rattle.mm_dump.proofs.Finding.{only}

-- an order's number weighs what the order does, and a number that no order has weighs nothing
abbrev pub weight_of : List Order → (Order → ℕ) → ℕ → ℕ
weight_of orders f k = cond (has_order orders k) (f (order_at orders k)) 0

-- the numbers from 0 on weigh what the first orders weigh
pub weighs_first : (f : Order → ℕ) (orders : List Order) (next : ℕ)
    → sum_by (weight_of orders f) (range_with_len 0 next) ≡ sum_by f (take next orders)
weighs_first f orders zero = refl
weighs_first f orders (suc next) =
    let rest = weighs_first f orders next in
    let more : suc next ≡ next + 1 = omega arith in
    let here = ap (λ (n : ℕ). sum_by (weight_of orders f) (range_with_len 0 n)) more
    ∙ sum_by_range_more (weight_of orders f) 0 next next (omega arith) in
    let chosen : Bool → ℕ = λ b. cond b (f (order_at orders next)) 0 in
    elim (cases_lt next (length orders)) [
      | inl less ↦
          let one : weight_of orders f next ≡ f (order_at orders next) = ap chosen (lt-ltb next (length orders) less) in
          let last = sum_by_more f orders next (record { place = 0; amount = 0 }) less in
          omega (arith, here, rest, one, last, ap (λ (n : ℕ). sum_by f (take n orders)) more)
      | inr past ↦
          let none : weight_of orders f next ≡ 0 = ap chosen (le-ltb next (length orders) past) in
          let all = take_all next orders past ∙ sym (take_all (suc next) orders (omega arith)) in
          omega (arith, here, rest, none, ap (sum_by f) all)
    ]

-- whether an order names a place
abbrev pub names : ℕ → Order → ℕ
names p o = cond (eqb o.place p) 1 0

-- how often a place is named
pub times_named : (p : ℕ) (orders : List Order) → times p (places_of orders) ≡ sum_by (names p) orders
times_named p orders = sum_by-map (λ (x : ℕ). cond {A = ℕ} (eqb x p) 1 0) (λ (o : Order). o.place) orders

-- no place is named twice
abbrev Apart : Order → Order → Type 0
Apart a b = a.place ≢ b.place

one_names : (p : ℕ) (a b : Order) → Apart a b → 0 < names p a → names p b ≡ 0
one_names p a b apart some =
    elim (eqb_tells b.place p) [
      | inl same ↦
          let off = ne_eqb a.place p (λ e. apart (e ∙ sym same.1)) in
          absurd (omega (arith, some, ap (λ (t : Bool). cond {A = ℕ} t 1 0) off))
      | inr off ↦ ap (λ (t : Bool). cond {A = ℕ} t 1 0) off.0
    ]

pub named_once : (p : ℕ) (orders : List Order) → AllPairs Apart orders → sum_by (names p) orders ≤ 1
named_once p orders apart =
    sum_by-le_one (names p) 1 orders (λ i d within. few (eqb (get_or orders i d).place p))
    (λ i j d before within. one_names p (get_or orders i d) (get_or orders j d) (apart i j d before within))
  where
    few : (b : Bool) → cond {A = ℕ} b 1 0 ≤ 1
    few true = omega arith
    few false = omega arith

-- what is wanted of the place of each order is its amount
pub wanted_own : (orders : List Order) → AllPairs Apart orders
    → All (λ (o : Order). wanted orders o.place ≡ o.amount) orders
wanted_own orders apart i d within =
    let o : Order = get_or orders i d in
    let at : Order → Bool = λ b. b.place == o.place in
    let alone : filter at orders ≡ o ∷ [] = only at orders i d within (eq-eqb o.place o.place refl)
    (omega (arith, length-filter at orders, named_once o.place orders apart)) in
    omega (arith, ap (sum_by (λ (b : Order). b.amount)) alone, sum_by-cons (λ (b : Order). b.amount) o [])

-- where something is wanted an order names the place
pub wanted_named : (p : ℕ) (orders : List Order) → 1 ≤ wanted orders p → 1 ≤ times p (places_of orders)
wanted_named p orders some = elim (cases_lt 0 (times p (places_of orders))) [
  | inl has ↦ has
  | inr none ↦
      let at : Order → Bool = λ o. o.place == p in
      let count = length-filter at orders in
      let empty = nil_from_length (filter at orders) (omega (arith, none, count, times_named p orders)) in
      absurd (omega (arith, some, ap (sum_by (λ (o : Order). o.amount)) empty))
]
