-- The limits that are left in a halted step, and in those after it.
use Rattle.std.proofs.Common.{◌≡◌, ◌∙◌, ◌+◌, ◌-◌, ◌*◌, ◌<◌, ◌≤◌, ◌==◌, ◌&&◌, ◌||◌, ℕ, zero, suc, nat_lt, Bool, true}
use Rattle.std.proofs.Common.{false, cond, inl, inr, List, [], ◌∷◌, Option, Some, None, refl, sym, ap, ap₂, arith}
use Rattle.std.proofs.Common.{filter, get_or, length, map, not}
use Rattle.std.specs.Prelude.{is_some, option_map, slice_index_or}
use Rattle.std.specs.List.{list_any, position_or_len, range_with_len, sum_by}
use Rattle.std.specs.Option.{unwrap_or}
use Rattle.std.specs.Str.{bytes_eq}
use Rattle.std.proofs.lemmas.Bool.{both_ways, cases_Bool, cases_eq, eq-eqb}
use Rattle.std.proofs.lemmas.Bool.Decides.{nat_tests}
use Rattle.std.proofs.lemmas.List.FromFn.{get_or-map-range_with_len}
use Rattle.std.proofs.lemmas.List.Sums.{passes_at_first}
use Rattle.mm_base.specs.declared.limits.TheConstants.{CHANNELS}
use Rattle.mm_base.specs.declared.rows.StoreRow.{StoreRow}
use Rattle.mm_base.proofs.RangeSums.{sum_by_range_same}
use Rattle.mm_base.proofs.Ranges.{All-filter-range_with_len}
use Rattle.mm_problem.specs.Dumping.{Dumping, is_of, lesser, limit, place, setup_limit, step_limit}
use Rattle.mm_problem.specs.Rest.{rest_of, rows_from}
use Rattle.mm_rest.specs.Halts.{begun, belongs, broken_spent, dumped_by, is_broken, limit_after, limit_left, limited_by}
use Rattle.mm_rest.specs.Halts.{limits_left, spent_by}
use Rattle.mm_rest.specs.declared.halt.HaltedStep.{HaltedStep}
use Rattle.mm_rest.proofs.Later.{many_of, row_of}
use Rattle.mm_rest.proofs.RestReads.{ids_kept}
use Rattle.mm_rest.proofs.Resumes.{table_cell}

-- ---- the columns

-- a number that passes has a place among those that pass
found : (f : ℕ → Bool) (c a m : ℕ) → a ≤ c → c < a + m → f c ≡ true
    → position_or_len (λ k. k == c) (filter f (range_with_len a m)) < length (filter f (range_with_len a m))
found f c a zero low high passes = absurd (omega arith)
found f c a (suc m) low high passes =
    let later = filter f (range_with_len (a + 1) m) in
    elim (cases_eq a c) [
      | inl here ↦
          let kept : f a ≡ true = ap f here ∙ passes in
          let first : (a == c) ≡ true = eq-eqb a c here in
          rw (kept, first) (omega arith)
      | inr other ↦
          let next = found f c (a + 1) m (omega arith) (omega arith) passes in
          elim (cases_Bool (f a)) [
            | inl kept ↦ rw kept (after (a == c) next)
            | inr gone ↦ rw gone next
          ]
    ]
  where
    after : (b : Bool) {i n : ℕ} → i < n → cond (not b) (1 + i) 0 < suc n
    after true next = omega arith
    after false next = omega arith

-- a number that does not pass has none
missing : (f : ℕ → Bool) (c a m : ℕ) → f c ≡ false
    → nat_lt (position_or_len (λ k. k == c) (filter f (range_with_len a m))) (length (filter f (range_with_len a m)))
    ≡ false
missing f c a m fails =
    let kept = filter f (range_with_len a m) in
    let at = position_or_len (λ k. k == c) kept in
    elim (cases_Bool (nat_lt at (length kept))) [
      | inl there ↦
          let within : at < length kept = grind (arith, nat_tests) in
          let test : (get_or kept at 0 == c) ≡ true = passes_at_first (λ k. k == c) kept 0 within in
          let same : get_or kept at 0 ≡ c = grind (arith, nat_tests) in
          let passes = All-filter-range_with_len (λ t. f t ≡ true) f a m (λ t low high yes. yes) at 0 within in
          absurd (both_ways (f c) fails (ap f (sym same) ∙ passes))
      | inr none ↦ none
    ]

-- ---- one limit

-- it is less by what was spent, also where the setup has one
less_left : (setup : Option ℕ) (has : Bool) (v k : ℕ) →
    let l = option_map (λ n. n - k) (lesser setup (cond has (Some v) None)) in
    lesser setup (cond (is_some l) (Some (unwrap_or l 0)) None) ≡ l
less_left None true v k = refl
less_left None false v k = refl
less_left (Some a) true v k = ap Some (omega arith)
less_left (Some a) false v k = ap Some (omega arith)

-- and in other steps it is as before
same_left : (setup : Option ℕ) (has : Bool) (v u k : ℕ) →
    lesser setup (cond (is_some (option_map (λ n. n - k) (lesser setup (cond has (Some v) None))))
    (Some (unwrap_or (lesser setup (cond has (Some u) None)) 0)) None)
    ≡ lesser setup (cond has (Some u) None)
same_left None true v u k = refl
same_left None false v u k = refl
same_left (Some a) true v u k = ap Some (omega arith)
same_left (Some a) false v u k = ap Some (omega arith)

-- ---- the limits of a problem whose first step has begun

module _ (p : Dumping) (w : ℕ) (ls : List (Option ℕ)) (c t : ℕ) (first : 1 ≤ t) (last : t ≤ length p.windows)
    (channel : c < length p.limits) where
  abbrev column : ℕ
  column = position_or_len (λ k. k == c) (limited_by p ls)

  abbrev has : Bool
  has = is_some (slice_index_or ls c None)

  cell_begun : column < length (limited_by p ls)
      → get_or (begun p w ls).step_limits ((t - 1) * length (limited_by p ls) + column) 0 ≡ limit_left p ls t c
  cell_begun within =
      let test : (get_or (limited_by p ls) column 0 == c) ≡ true =
      passes_at_first (λ k. k == c) (limited_by p ls) 0 within in
      let same : get_or (limited_by p ls) column 0 ≡ c = grind (arith, nat_tests) in
      let step : 1 + (t - 1) ≡ t = omega arith in
      table_cell (limit_left p ls) (limited_by p ls) 1 (length p.windows) (t - 1) column (omega arith) within
      ∙ ap₂ (limit_left p ls) step same

  column_begun : step_limit (begun p w ls) c t ≡ cond has (Some (limit_left p ls t c)) None
  column_begun = elim (cases_Bool has) [
    | inl kept ↦
        let within = found (λ c. is_some (slice_index_or ls c None)) c 0 (length p.limits) (omega arith) (omega arith)
        kept in
        let test : nat_lt column (length (limited_by p ls)) ≡ true = grind (arith, nat_tests) in
        rw (kept, test) (ap Some (cell_begun within))
    | inr gone ↦
        let test = missing (λ c. is_some (slice_index_or ls c None)) c 0 (length p.limits) gone in
        rw (gone, test) refl
  ]

  pub limit_begun : limit (begun p w ls) c t ≡ lesser (setup_limit p c) (cond has (Some (limit_left p ls t c)) None)
  limit_begun =
      let test : nat_lt c (length p.limits) ≡ true = grind (arith, nat_tests) in
      ap (λ b. cond b (lesser (setup_limit p c) (step_limit (begun p w ls) c t)) None) test
      ∙ ap (lesser (setup_limit p c)) column_begun

-- ---- the limits that are left

module _ (p : Dumping) (halted : HaltedStep) (w c : ℕ) (all : length p.limits ≡ CHANNELS) where
  left_limit : c < length p.limits → slice_index_or (limits_left p halted) c None
      ≡ option_map (λ n. n - spent_by p halted c) (limit p c 1)
  unfolding limit_after
  left_limit channel =
      get_or-map-range_with_len (limit_after p halted) 0 CHANNELS c c None (omega (arith, all)) (omega arith)

  limit_is : (t : ℕ) → c < length p.limits → limit p c t ≡ lesser (setup_limit p c) (step_limit p c t)
  limit_is t channel =
      let test : nat_lt c (length p.limits) ≡ true = grind (arith, nat_tests) in
      ap (λ b. cond b (lesser (setup_limit p c) (step_limit p c t)) None) test

  no_channel : (q : Dumping) (t : ℕ) → length q.limits ≤ c → limit q c t ≡ None
  no_channel q t beyond =
      let test : nat_lt c (length q.limits) ≡ false = grind (arith, nat_tests) in
      ap (λ b. cond b (lesser (setup_limit q c) (step_limit q c t)) None) test

  -- in the first step
  pub first_limit : 1 ≤ length p.windows → limit (begun p w (limits_left p halted)) c 1
      ≡ option_map (λ n. n - spent_by p halted c) (limit p c 1)
  first_limit some = elim (cases_Bool (nat_lt c (length p.limits))) [
    | inl there ↦
        let channel : c < length p.limits = grind (arith, nat_tests) in
        let k = spent_by p halted c in
        let is = left_limit channel in
        let l1 = limit_is 1 channel in
        limit_begun p w (limits_left p halted) c 1 (omega arith) some channel
        ∙ ap (λ l. lesser (setup_limit p c) (cond (is_some l) (Some (unwrap_or l 0)) None))
        (is ∙ ap (option_map (λ n. n - k)) l1)
        ∙ less_left (setup_limit p c) _ _ k
        ∙ sym (ap (option_map (λ n. n - k)) l1)
    | inr none ↦
        let beyond : length p.limits ≤ c = grind (arith, nat_tests) in
        no_channel (begun p w (limits_left p halted)) 1 beyond
        ∙ sym (ap (option_map (λ n. n - spent_by p halted c)) (no_channel p 1 beyond))
  ]

  -- in later steps
  pub later_limit : (t : ℕ) → 2 ≤ t → t ≤ length p.windows → limit (begun p w (limits_left p halted)) c t ≡ limit p c t
  later_limit t past last = elim (cases_Bool (nat_lt c (length p.limits))) [
    | inl there ↦
        let channel : c < length p.limits = grind (arith, nat_tests) in
        let k = spent_by p halted c in
        let other : (t == 1) ≡ false = grind (arith, nat_tests) in
        limit_begun p w (limits_left p halted) c t (omega arith) last channel
        ∙ ap₂ (λ l b. lesser (setup_limit p c) (cond (is_some l) (Some (unwrap_or
        (cond b (slice_index_or (limits_left p halted) c None) (limit p c t)) 0)) None))
        (left_limit channel ∙ ap (option_map (λ n. n - k)) (limit_is 1 channel)) other
        ∙ ap (λ l. lesser (setup_limit p c) (cond (is_some (option_map (λ n. n - k) (lesser (setup_limit p c)
        (step_limit p c 1)))) (Some (unwrap_or l 0)) None)) (limit_is t channel)
        ∙ same_left (setup_limit p c) _ _ _ k
        ∙ sym (limit_is t channel)
    | inr none ↦
        let beyond : length p.limits ≤ c = grind (arith, nat_tests) in
        no_channel (begun p w (limits_left p halted)) t beyond ∙ sym (no_channel p t beyond)
  ]

-- ---- what was spent of a limit

any_same : {X : Type 0} (f g : X → Bool) (xs : List X) → ((x : X) → f x ≡ g x) → list_any f xs ≡ list_any g xs
any_same f g [] same = refl
any_same f g (x ∷ xs) same = ap₂ (λ a b. a || b) (same x) (any_same f g xs same)

-- the first place of an identifier
place_by_ids : (id : List ℕ) (rows : List StoreRow) → position_or_len (λ (r : StoreRow). bytes_eq r.id id) rows
    ≡ position_or_len (λ i. bytes_eq i id) (map (λ (r : StoreRow). r.id) rows)
place_by_ids id [] = refl
place_by_ids id (r ∷ rows) = ap (λ k. cond (not (bytes_eq r.id id)) (1 + k) 0) (place_by_ids id rows)

module _ (q : Dumping) (n : ℕ) (held : List ℕ) (halted : HaltedStep) (c : ℕ) where
  abbrev rest : Dumping
  rest = rest_of q n held

  channel_same : (s : ℕ) → s < length q.rows → is_of rest c s ≡ is_of q c s
  channel_same s store = ap (λ (r : StoreRow). r.channel == c) (row_of q n held s store)

  place_same : (id : List ℕ) → place rest id ≡ place q id
  place_same id = place_by_ids id (rows_from q.rows held)
      ∙ ap (position_or_len (λ i. bytes_eq i id)) (ids_kept q.rows held) ∙ sym (place_by_ids id q.rows)

  belongs_same : (id : List ℕ) → belongs rest c id ≡ belongs q c id
  belongs_same id =
      ap₂ (λ k m. nat_lt k m && is_of rest c k) (place_same id) (many_of q n held)
      ∙ elim (cases_Bool (nat_lt (place q id) (length q.rows))) [
        | inl there ↦
            let store : place q id < length q.rows = grind (arith, nat_tests) in
            ap (λ b. nat_lt (place q id) (length q.rows) && b) (channel_same (place q id) store)
        | inr none ↦ rw none refl
      ]

  broken_same : is_broken rest halted c ≡ is_broken q halted c
  broken_same = any_same (belongs rest c) (belongs q c) halted.broken.items belongs_same

  pub spent_same : spent_by rest halted c ≡ spent_by q halted c
  spent_same = ap₂ (λ a b. a + cond b (broken_spent halted) 0)
      (ap (λ m. sum_by (dumped_by rest halted c) (range_with_len 0 m)) (many_of q n held)
      ∙ sum_by_range_same (dumped_by rest halted c) (dumped_by q halted c) 0 (length q.rows) (λ s low high.
      let store : s < length q.rows = omega arith in
      ap (λ b. cond b (get_or halted.dumped.items s 0) 0) (channel_same s store)))
      broken_same
