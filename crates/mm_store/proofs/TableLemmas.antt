-- How each change of a table of blocks keeps its numbers apart, and what it does to the packets.
use Rattle.std.proofs.Common.{◌≡◌, ◌≢◌, ◌⊎◌, ◌↔◌, ℕ, zero, suc, ◌+◌, ◌<◌, cond, eqb, List, [], ◌∷◌, ◌++◌, length}
use Rattle.std.proofs.Common.{get_or, set, slice_get, Option, Some, None, IsSome, refl, sym, ap, ◌∙◌, inl, inr, arith}
use Rattle.std.proofs.Common.{length-set}
use Rattle.std.proofs.lemmas.Bool.{cases_eq, cases_lt, eq-eqb, ne_eqb, true≢false}
use Rattle.std.proofs.lemmas.List.{get_or-set_same, get_or-set_other, length_push}
use Rattle.std.proofs.lemmas.List.Elements.{filter_map-append}
use Rattle.std.proofs.lemmas.List.Sums.{sum_by-cons, sum_by_push, get_or-le-sum_by}
use Rattle.mm_store.specs.declared.stored.Stored.{Stored}
use Rattle.mm_store.specs.Table.{slot, times_in, packets_along, IsTable}

-- one more number at the front
times_in-cons : (m : ℕ) (xs : List ℕ) (n : ℕ) → times_in (m ∷ xs) n ≡ cond (eqb m n) 1 0 + times_in xs n
times_in-cons m xs n = sum_by-cons (λ k. cond (eqb k n) 1 0) m xs

-- one more number at the end
times_in-push : (xs : List ℕ) (m n : ℕ) → times_in (xs ++ m ∷ []) n ≡ times_in xs n + cond (eqb m n) 1 0
times_in-push xs m n = sum_by_push (λ k. cond (eqb k n) 1 0) xs m

-- an equal number counts once
same_once : (m n : ℕ) → m ≡ n → ◌≡◌ {A = ℕ} (cond (eqb m n) 1 0) 1
same_once m n same = rw (eq-eqb m n same)

-- another number does not count
other_never : (m n : ℕ) → m ≢ n → ◌≡◌ {A = ℕ} (cond (eqb m n) 1 0) 0
other_never m n other = rw (ne_eqb m n other)

-- a write to a block whose number is not queued is not seen along the queue
packets_along-set : (queue : List ℕ) (blocks : List (Option Stored)) (n : ℕ) (o : Option Stored) → times_in queue n ≡ 0
    → packets_along queue (set blocks n o) ≡ packets_along queue blocks
packets_along-set [] blocks n o none = refl
packets_along-set (m ∷ queue) blocks n o none =
    let counted = times_in-cons m queue n in
    let other : m ≢ n = λ same. absurd (omega (arith, counted, same_once m n same)) in
    let rest = packets_along-set queue blocks n o (omega arith) in
    rw (get_or-set_other blocks n m o None other, rest)

-- what an `Option` holds that holds something
some_of : {X : Type 0} (o : Option X) → IsSome o → (x : X) × (o ≡ Some x)
some_of None some = absurd (true≢false (sym some))
some_of (Some x) some = (x, refl)

-- a number that stands at some place is counted
times_in-at : (xs : List ℕ) (k n : ℕ) → k < length xs → n ≡ get_or xs k n → 0 < times_in xs n
times_in-at xs k n within at =
    let counted = get_or-le-sum_by (λ m. cond (eqb m n) 1 0) xs k n within in
    omega (arith, counted, same_once (get_or xs k n) n (sym at))

module _ (blocks : List (Option Stored)) where
  -- where all queued blocks hold packets, there are as many packets as numbers
  length-packets_along : (queue : List ℕ) → ((n : ℕ) → 0 < times_in queue n → IsSome (slot blocks n))
      → length (packets_along queue blocks) ≡ length queue
  length-packets_along [] held = refl
  length-packets_along (m ∷ queue) held =
      let first = some_of (slot blocks m) (held m (omega (arith, times_in-cons m queue m, same_once m m refl))) in
      let rest = length-packets_along queue (λ n queued. held n (omega (arith, times_in-cons m queue n))) in
      rw first.1 (ap suc rest)

  -- and each place has the packet of its block
  get-packets_along : (queue : List ℕ) (k n : ℕ) → ((n : ℕ) → 0 < times_in queue n → IsSome (slot blocks n))
      → k < length queue → n ≡ get_or queue k n → slice_get (packets_along queue blocks) k ≡ slot blocks n
  get-packets_along [] k n held within at = absurd (omega arith)
  get-packets_along (m ∷ queue) zero n held within at =
      let first = some_of (slot blocks m) (held m (omega (arith, times_in-cons m queue m, same_once m m refl))) in
      rw (at, first.1)
  get-packets_along (m ∷ queue) (suc k) n held within at =
      let first = some_of (slot blocks m) (held m (omega (arith, times_in-cons m queue m, same_once m m refl))) in
      rw first.1 (get-packets_along queue k n (λ i queued. held i (omega (arith, times_in-cons m queue i)))
      (omega arith) at)

-- a number in the queue or the free list is that of a block
pub number_within : (blocks : List (Option Stored)) (queue free : List ℕ) (n : ℕ) → IsTable blocks queue free
    → 0 < times_in queue n + times_in free n → n < length blocks
number_within blocks queue free n table stands =
    elim (cases_lt n (length blocks)) [ inl within ↦ within | inr past ↦ absurd (omega (arith, table.no_other n past)) ]

-- a table has as many packets as queued numbers
pub length-packets : (blocks : List (Option Stored)) (queue free : List ℕ) → IsTable blocks queue free
    → length (packets_along queue blocks) ≡ length queue
length-packets blocks queue free table = length-packets_along blocks queue (λ n. (table.held n).1)

-- a place of the queue has the number of a block, and that block holds the packet at that place
pub packet_at : (blocks : List (Option Stored)) (queue free : List ℕ) (k n : ℕ) → IsTable blocks queue free
    → k < length (packets_along queue blocks) → n ≡ get_or queue k n
    → (n < length blocks) × IsSome (slot blocks n) × (slice_get (packets_along queue blocks) k ≡ slot blocks n)
packet_at blocks queue free k n table inside at =
    let within : k < length queue = omega (arith, length-packets blocks queue free table) in
    let queued = times_in-at queue k n within at in (
      number_within blocks queue free n table (omega arith),
      (table.held n).1 queued,
      get-packets_along blocks queue k n (λ m. (table.held m).1) within at,
    )

module _ (blocks : List (Option Stored)) (queue rest : List ℕ) (n : ℕ) (x : Stored)
    (table : IsTable blocks queue (rest ++ n ∷ [])) where
  -- the last free number is that of a block
  pub free_within : n < length blocks
  free_within = number_within blocks queue (rest ++ n ∷ []) n table
      (omega (arith, times_in-push rest n n, same_once n n refl))

  -- the last free number is not queued
  free_not_queued : times_in queue n ≡ 0
  free_not_queued = omega (arith, table.once n free_within, times_in-push rest n n, same_once n n refl)

  -- a packet in the last free block makes a table with its number queued
  pub table_append : IsTable (set blocks n (Some x)) (queue ++ n ∷ []) rest
  table_append = record {
    once = λ k within. omega (
      arith,
      table.once k (omega (arith, length-set blocks n (Some x))),
      times_in-push queue n k,
      times_in-push rest n k,
    );
    no_other = λ k past. omega (
      arith,
      table.no_other k (omega (arith, length-set blocks n (Some x))),
      times_in-push queue n k,
      times_in-push rest n k,
    );
    total = omega (arith, table.total, length-set blocks n (Some x), length_push queue n, length_push rest n);
    held = λ k. by_number k (cases_eq k n);
  }
    where
      by_number : (k : ℕ) → (k ≡ n) ⊎ (k ≡ n → ⊥)
          → IsSome (slot (set blocks n (Some x)) k) ↔ (0 < times_in (queue ++ n ∷ []) k)
      by_number k (inl same) =
          rw same (
            λ some. omega (arith, times_in-push queue n n, same_once n n refl),
            λ queued. rw (get_or-set_same blocks n (Some x) None free_within) refl,
          )
      by_number k (inr other) =
          let counted : times_in (queue ++ n ∷ []) k ≡ times_in queue k =
          omega (arith, times_in-push queue n k, other_never n k (λ e. other (sym e))) in
          rw (counted, get_or-set_other blocks n k (Some x) None other) (table.held k)

  -- and the packet stands at the end
  pub packets_append : packets_along (queue ++ n ∷ []) (set blocks n (Some x)) ≡ packets_along queue blocks ++ x ∷ []
  packets_append =
      let here : slot (set blocks n (Some x)) n ≡ Some x = get_or-set_same blocks n (Some x) None free_within in
      let before = packets_along-set queue blocks n (Some x) free_not_queued in
      filter_map-append (slot (set blocks n (Some x))) queue (n ∷ []) ∙ rw (here, before)

module _ (blocks : List (Option Stored)) (queue rest : List ℕ) (n : ℕ) (table : IsTable blocks (n ∷ queue) rest) where
  -- the first queued number is that of a block
  pub first_within : n < length blocks
  first_within = number_within blocks (n ∷ queue) rest n table
      (omega (arith, times_in-cons n queue n, same_once n n refl))

  -- the first queued number is queued once
  first_not_again : times_in queue n ≡ 0
  first_not_again = omega (arith, table.once n first_within, times_in-cons n queue n, same_once n n refl)

  -- without the packet of the first queued block it is a table with that number free
  pub table_take : IsTable (set blocks n None) queue (rest ++ n ∷ [])
  table_take = record {
    once = λ k within. omega (
      arith,
      table.once k (omega (arith, length-set blocks n None)),
      times_in-cons n queue k,
      times_in-push rest n k,
    );
    no_other = λ k past. omega (
      arith,
      table.no_other k (omega (arith, length-set blocks n None)),
      times_in-cons n queue k,
      times_in-push rest n k,
    );
    total = omega (arith, table.total, length-set blocks n None, length_push rest n);
    held = λ k. by_number k (cases_eq k n);
  }
    where
      by_number : (k : ℕ) → (k ≡ n) ⊎ (k ≡ n → ⊥) → IsSome (slot (set blocks n None) k) ↔ (0 < times_in queue k)
      by_number k (inl same) =
          let here : slot (set blocks n None) n ≡ None = get_or-set_same blocks n None None first_within in
          rw (same, here) (λ some. absurd (true≢false (sym some)), λ queued. absurd (omega (arith, first_not_again)))
      by_number k (inr other) =
          let counted : times_in (n ∷ queue) k ≡ times_in queue k =
          omega (arith, times_in-cons n queue k, other_never n k (λ e. other (sym e))) in
          rw (← counted, get_or-set_other blocks n k None None other) (table.held k)

  -- and the other packets stay in their order
  pub packets_take : (x : Stored) → slot blocks n ≡ Some x
      → packets_along (n ∷ queue) blocks ≡ x ∷ packets_along queue (set blocks n None)
  packets_take x here = rw (here, packets_along-set queue blocks n None first_not_again)

-- an empty block at the end changes no slot
slot-push : (blocks : List (Option Stored)) (n : ℕ) → slot (blocks ++ None ∷ []) n ≡ slot blocks n
slot-push [] zero = refl
slot-push [] (suc n) = refl
slot-push (o ∷ blocks) zero = refl
slot-push (o ∷ blocks) (suc n) = slot-push blocks n

-- one more free block makes a table
pub table_grow : (blocks : List (Option Stored)) (queue free : List ℕ) (n : ℕ) → n ≡ length blocks
    → IsTable blocks queue free → IsTable (blocks ++ None ∷ []) queue (free ++ n ∷ [])
table_grow blocks queue free n at table = record {
  once = λ k within. by_number k (cases_eq n k) within;
  no_other = λ k past. omega (
    arith,
    length_push blocks None,
    table.no_other k (omega (arith, length_push blocks None)),
    times_in-push free n k,
    other_never n k (λ e. omega (arith, length_push blocks None)),
  );
  total = omega (arith, table.total, length_push blocks None, length_push free n);
  held = λ k. rw (slot-push blocks k) (table.held k);
}
  where
    by_number : (k : ℕ) → (n ≡ k) ⊎ (n ≡ k → ⊥) → k < length (blocks ++ None ∷ [])
        → times_in queue k + times_in (free ++ n ∷ []) k ≡ 1
    by_number k (inl same) within =
        let before = table.no_other k (omega arith) in
        let counted = times_in-push free n k in
        omega (arith, before, counted, same_once n k same)
    by_number k (inr other) within =
        omega (
          arith,
          table.once k (omega (arith, length_push blocks None)),
          times_in-push free n k,
          other_never n k other,
        )
