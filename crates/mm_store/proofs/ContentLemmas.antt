-- What a deletion, a search and a put do to a rising list of packets.
use Rattle.std.proofs.Common.{◌≡◌, ◌⊎◌, ℕ, zero, suc, ◌+◌, ◌-◌, ◌<◌, ◌≤◌, Bool, true, false, ltb, leb, inl, inr}
use Rattle.std.proofs.Common.{slice_get, List, [], ◌∷◌, length, get_or, take, drop, All, Some, None, max, refl, sym, ap}
use Rattle.std.proofs.Common.{◌∙◌, arith}
use Rattle.std.specs.List.{find}
use Rattle.std.proofs.lemmas.Bool.{lt-ltb, le-ltb, le-leb, lt-leb, leb-true, leb-false, ltb-true, cases_lt, and_left}
use Rattle.std.proofs.lemmas.Bool.{and_right, and_from}
use Rattle.std.proofs.lemmas.Bool.Decides.{nat_tests}
use Rattle.std.proofs.lemmas.List.{drop_more, drop_all, get_or-take, get_or-drop, length-take, length-drop}
use Rattle.std.proofs.lemmas.List.Elements.{All-filter, All-head, All-tail, All-weaker}
use Rattle.std.proofs.lemmas.Option.{slice_get_within, get_or_from_slice_get}
use Rattle.std.proofs.lemmas.List.Kept.{AllPairs-filter}
use Rattle.std.proofs.lemmas.List.Sums.{length-filter}
use Rattle.std.proofs.lemmas.List.Filters.{length-filter_both}
use Rattle.circular_buffer.specs.Buffer.{Buffer, buffer}
use Rattle.mm_store.specs.declared.stored.Stored.{Stored}
use Rattle.mm_store.specs.Content.{Store, IsStore, IsRising, kept_after, count_up_to, delete_up_to, is_in, first_in}
use Rattle.mm_store.specs.Queue.{begins_by}

-- a buffer with these items and this capacity
pub same_buffer : {X : Type 0} (b : Buffer X) (xs : List X) (n : ℕ) → b.items ≡ xs → b.capacity ≡ n → b ≡ buffer xs n
same_buffer b xs n items capacity = ap (λ ys. buffer ys b.capacity) items ∙ ap (buffer xs) capacity

-- without its oldest packet a list still rises
pub IsRising-rest : (x : Stored) (xs : List Stored) → IsRising (x ∷ xs) → IsRising xs
IsRising-rest x xs rising = λ i j d before within. rising (suc i) (suc j) d (omega arith) (omega arith)

-- all later packets have later times
pub later_than_oldest : (x : Stored) (xs : List Stored) → IsRising (x ∷ xs) → All (λ p. x.time < p.time) xs
later_than_oldest x xs rising = λ k d within. rising 0 (suc k) d (omega arith) (omega arith)

-- a deletion keeps a list whose times are all later
pub kept_after-later : (limit : ℕ) (xs : List Stored) → All (λ p. limit < p.time) xs → kept_after limit xs ≡ xs
kept_after-later limit [] later = refl
kept_after-later limit (x ∷ xs) later =
    let rest = kept_after-later limit xs (All-tail (λ p. limit < p.time) x xs later) in
    rw (lt-ltb limit x.time (later 0 x (omega arith))) (ap (λ ys. x ∷ ys) rest)

-- a deletion removes an oldest packet whose time is within the limit
pub kept_after-oldest : (limit : ℕ) (x : Stored) (xs : List Stored) → begins_by limit (x ∷ xs) ≡ true
    → kept_after limit (x ∷ xs) ≡ kept_after limit xs
kept_after-oldest limit x xs begins = rw (le-ltb limit x.time (leb-true x.time limit begins))

-- where the oldest packet stays, all stay
pub kept_after-all : (limit : ℕ) (xs : List Stored) → IsRising xs → begins_by limit xs ≡ false
    → kept_after limit xs ≡ xs
kept_after-all limit [] rising begins = refl
kept_after-all limit (x ∷ xs) rising begins =
    let oldest : limit < x.time = leb-false x.time limit begins in
    let rest = kept_after-later limit xs (λ k d within. omega (arith, later_than_oldest x xs rising k d within)) in
    rw (lt-ltb limit x.time oldest) (ap (λ ys. x ∷ ys) rest)

-- what a deletion removes and what it keeps are all
pub count_up_to-kept : (limit : ℕ) (xs : List Stored) → count_up_to limit xs + length (kept_after limit xs) ≡ length xs
count_up_to-kept limit xs =
    let both = length-filter_both (λ (p : Stored). leb p.time limit) (λ (p : Stored). ltb limit p.time)
    (λ p. grind (arith, nat_tests)) xs in
    omega (arith, both, length-filter (λ (p : Stored). leb p.time limit) xs)

-- where the oldest packet left stays, what is left is what the deletion keeps, and the rest is its count
pub all_kept : (limit : ℕ) (start left : List Stored) → IsRising left → kept_after limit left ≡ kept_after limit start
    → begins_by limit left ≡ false
    → (left ≡ kept_after limit start) × (count_up_to limit start + length left ≡ length start)
all_kept limit start left rising kept begins =
    let same = sym (kept_after-all limit left rising begins) ∙ kept in
    (same, omega (arith, ap length same, count_up_to-kept limit start))

-- a deletion keeps what is always true of a store
pub IsStore-delete_up_to : (s : Store) (limit : ℕ) → IsStore s → IsStore (delete_up_to s limit)
IsStore-delete_up_to s limit sound = record {
  rising = AllPairs-filter (λ p q. p.time < q.time) (λ p. ltb limit p.time) s.content sound.rising;
  from_one = All-filter (λ p. ltb limit p.time) (λ p. 1 ≤ p.time) s.content sound.from_one;
  up_to_last = All-filter (λ p. ltb limit p.time) (λ p. p.time ≤ s.last) s.content sound.up_to_last;
  within = omega (arith, sound.within, count_up_to-kept limit s.content);
  has_room = sound.has_room;
  in_limits = sound.in_limits;
  last_fits = sound.last_fits;
}

module _ (xs : List Stored) (place passed : ℕ) (x : Stored) (rising : IsRising xs)
    (at : slice_get xs place ≡ Some x) where
  here : (d : Stored) → get_or xs place d ≡ x
  here d = get_or_from_slice_get xs place x d at

  -- up to an early packet all are early
  pub early_up_to : x.time ≤ passed → All (λ p. p.time ≤ passed) (take (place + 1) xs)
  early_up_to early = λ k d inside.
      let below : k < place + 1 = omega (arith, length-take (place + 1) xs) in
      rw (get_or-take (place + 1) xs k d below) (by_order k d (cases_lt k place) (omega arith))
    where
      by_order : (k : ℕ) (d : Stored) → (k < place) ⊎ (place ≤ k) → k ≤ place → (get_or xs k d).time ≤ passed
      by_order k d (inl before) upto =
          let less = rw (here d) at (rising k place d before (slice_get_within xs place x at)) in
          omega arith
      by_order k d (inr after) upto =
          let same : k ≡ place = omega arith in
          rw (same, here d) early

  -- from a late packet on all are late
  pub late_from : passed < x.time → All (λ p. passed < p.time) (drop place xs)
  late_from late = λ k d inside.
      let below : place + k < length xs = omega (arith, length-drop place xs) in
      rw (get_or-drop place xs k d) (by_order k d (cases_lt 0 k) below)
    where
      by_order : (k : ℕ) (d : Stored) → (0 < k) ⊎ (k ≤ 0) → place + k < length xs
          → passed < (get_or xs (place + k) d).time
      by_order k d (inl after) below =
          let more = rw (here d) at (rising place (place + k) d (omega arith) below) in
          omega arith
      by_order k d (inr same) below =
          let zero_more : place + k ≡ place = omega arith in
          rw (zero_more, here d) late

  -- before a packet of the next tick all are early
  pub early_before : x.time ≤ passed + 1 → All (λ p. p.time ≤ passed) (take place xs)
  early_before next = λ k d inside.
      let below : k < place = omega (arith, length-take place xs) in
      let less = rw (here d) at (rising k place d below (slice_get_within xs place x at)) in
      rw (get_or-take place xs k d below) (omega (arith, less, next))

  -- a packet is early exactly where all up to it are
  pub early_where : (leb x.time passed ≡ true → All (λ p. p.time ≤ passed) (take (place + 1) xs))
      × (All (λ p. p.time ≤ passed) (take (place + 1) xs) → leb x.time passed ≡ true)
  early_where = (λ early. early_up_to (leb-true x.time passed early), λ early. le-leb x.time passed (last_early early))
    where
      last_early : All (λ p. p.time ≤ passed) (take (place + 1) xs) → x.time ≤ passed
      last_early early =
          let within = slice_get_within xs place x at in
          let inside : place < length (take (place + 1) xs) = omega (arith, within, length-take (place + 1) xs) in
          rw (get_or-take (place + 1) xs place x (omega arith), here x) at (early place x inside)

  -- a packet is late exactly where all from it on are
  pub late_where : (ltb passed x.time ≡ true → All (λ p. passed < p.time) (drop place xs))
      × (All (λ p. passed < p.time) (drop place xs) → ltb passed x.time ≡ true)
  late_where = (λ late. late_from (ltb-true passed x.time late), λ late. lt-ltb passed x.time (first_late late))
    where
      first_late : All (λ p. passed < p.time) (drop place xs) → passed < x.time
      first_late late =
          let within = slice_get_within xs place x at in
          let inside : 0 < length (drop place xs) = omega (arith, within, length-drop place xs) in
          let same : place + 0 ≡ place = omega arith in
          let first = get_or-drop place xs 0 x ∙ ap (λ (k : ℕ). get_or xs k x) same ∙ here x in
          rw first at (late 0 x inside)

-- a search passes what fails its test
find-drop : (test : Stored → Bool) (xs : List Stored) (n : ℕ) → All (λ p. test p ≡ false) (take n xs)
    → find test xs ≡ find test (drop n xs)
find-drop test xs zero fails = refl
find-drop test [] (suc n) fails = refl
find-drop test (x ∷ xs) (suc n) fails =
    let first = All-head (λ p. test p ≡ false) x (take n xs) fails in
    rw first (find-drop test xs n (All-tail (λ p. test p ≡ false) x (take n xs) fails))

-- a search finds nothing where all fail its test
find-none : (test : Stored → Bool) (xs : List Stored) → All (λ p. test p ≡ false) xs → find test xs ≡ None
find-none test [] fails = refl
find-none test (x ∷ xs) fails =
    let first = All-head (λ p. test p ≡ false) x xs fails in
    rw first (find-none test xs (All-tail (λ p. test p ≡ false) x xs fails))

module _ (from to after passed : ℕ) (bound : passed ≡ max (from - 1) after) where
  -- an early packet is not in the range
  is_in-early : (p : Stored) → p.time ≤ passed → is_in from to after p ≡ false
  is_in-early p early = by_order (cases_lt after p.time)
    where
      by_order : (after < p.time) ⊎ (p.time ≤ after) → is_in from to after p ≡ false
      by_order (inl newer) = and_left _ _ (and_left _ _ (lt-leb from p.time (omega arith)))
      by_order (inr older) = and_right _ _ (le-ltb after p.time older)

  -- a packet past the end is not in the range
  is_in-late : (p : Stored) → to < p.time → is_in from to after p ≡ false
  is_in-late p late = and_left _ _ (and_right _ _ (lt-leb p.time to late))

  -- a packet between is in the range
  is_in-between : (p : Stored) → passed < p.time → p.time ≤ to → is_in from to after p ≡ true
  is_in-between p late early =
      and_from _ _ (and_from _ _ (le-leb from p.time (omega arith)) (le-leb p.time to early))
      (lt-ltb after p.time (omega arith))

  module _ (xs : List Stored) (place : ℕ) (early : All (λ p. p.time ≤ passed) (take place xs)) where
    -- the search begins at the first packet that is not early
    first_in-drop : first_in from to after xs ≡ first_in from to after (drop place xs)
    first_in-drop = find-drop (is_in from to after) xs place
        (All-weaker (λ p. p.time ≤ passed) (λ p. is_in from to after p ≡ false) is_in-early (take place xs) early)

    -- where all packets are early, none is in the range
    pub first_in-past : length xs ≤ place → first_in from to after xs ≡ None
    first_in-past past = first_in-drop ∙ ap (first_in from to after) (drop_all place xs past)

    module _ (x : Stored) (at : slice_get xs place ≡ Some x) where
      -- a packet that is not early, and not past the end, is the one
      pub first_in-found : All (λ p. passed < p.time) (drop place xs) → x.time ≤ to → first_in from to after xs ≡ Some x
      first_in-found late upto =
          let within = slice_get_within xs place x at in
          let rest = drop_more xs place x within
          ∙ ap (λ y. y ∷ drop (place + 1) xs) (get_or_from_slice_get xs place x x at) in
          let here = All-head (λ p. passed < p.time) x (drop (place + 1) xs) (rw rest at late) in
          first_in-drop ∙ ap (first_in from to after) rest ∙ rw (is_in-between x here upto)

      -- where the first packet that is not early is past the end, none is in the range
      pub first_in-late : IsRising xs → to < x.time → first_in from to after xs ≡ None
      first_in-late rising late =
          let all_late = late_from xs place to x rising at late in
          first_in-drop ∙ find-none (is_in from to after) (drop place xs)
          (All-weaker (λ p. to < p.time) (λ p. is_in from to after p ≡ false) is_in-late (drop place xs) all_late)
