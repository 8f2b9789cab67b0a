-- A problem with a larger number helps at least as much as one with a smaller.
use Rattle.std.proofs.Common.{◌≡◌, ℕ, ◌<◌, length, refl, sym, ap, ◌∙◌, inl, inr, ◌-◌, ◌≤◌, Bool, true, false, cond, eqb}
use Rattle.std.proofs.Common.{nat_lt, List, get_or, set, subst, arith}
use Rattle.std.specs.Prelude.{◌≢◌, slice_set, Option, Some, None, unwrap_or, All, IsSome}
use Rattle.std.specs.Str.{bytes_eq}
use Rattle.std.proofs.lemmas.Bool.{cases_eq, cases_Bool}
use Rattle.std.proofs.lemmas.List.{length-set, get_or-set_same, get_or-set_other}
use Rattle.std.proofs.lemmas.List.Folds.{position_or_len-set}
use Rattle.std.specs.List.{position_or_len}
use Rattle.mm_base.specs.declared.rows.StoreRow.{StoreRow}
use Rattle.mm_base.specs.Grid.{cell, grid_place}
use Rattle.mm_problem.specs.Dumping.{Dumping, no_row, row, size, size_column, IsDumping, limit, lesser, setup_limit}
use Rattle.mm_problem.specs.Dumping.{step_limit}
use Rattle.mm_problem.specs.Changed.{resized}
use Rattle.mm_plan.specs.declared.stretch.Stretch.{Stretch}
use Rattle.mm_plan.proofs.Places.{grid_place-lt}
use Rattle.mm_cut.specs.Stretches.{store_of, AreStretches, is_inner_on}
use Rattle.mm_cut.specs.Counts.{is_listed}
use Rattle.mm_cut.specs.Cuts.{IsCut}
use Rattle.mm_cut.specs.Changes.{ChangesStretch, HelpsNowhere}
use Rattle.mm_cut.proofs.Exchange.{inner_has_limit, listed_is_counted}
use Rattle.mm_sensitivity.specs.declared.item.Item.{Item}
use Rattle.mm_sensitivity.specs.declared.item.Item.TheVariants.{Window, Size, Limit, StepLimit, StepSize}
use Rattle.mm_sensitivity.specs.Items.{IsItem, with_number}

-- the problem with this row of a store
abbrev pub with_row : Dumping → ℕ → StoreRow → Dumping
with_row q s w = record q { rows = slice_set q.rows s w }

-- that row stands there
pub row_here : (q : Dumping) (s : ℕ) (w : StoreRow) → s < length q.rows → row (with_row q s w) s ≡ w
row_here q s w inside = get_or-set_same q.rows s w no_row inside

-- there are as many stores
pub as_many_rows : (q : Dumping) (s : ℕ) (w : StoreRow) → length (with_row q s w).rows ≡ length q.rows
as_many_rows q s w = length-set q.rows s w

-- a stretch keeps its store
pub same_store : (q : Dumping) (s : ℕ) (w : StoreRow) → w.id ≡ (row q s).id → (d : Stretch)
    → store_of (with_row q s w) d ≡ store_of q d
same_store q s w same d =
    position_or_len-set (λ r. bytes_eq r.id d.store) q.rows s w no_row (ap (λ id. bytes_eq id d.store) same)

module _ (q : Dumping) (s : ℕ) (w v : StoreRow) where
  -- both have as many stores
  pub rows_alike : length (with_row q s w).rows ≡ length (with_row q s v).rows
  rows_alike = as_many_rows q s w ∙ sym (as_many_rows q s v)

  -- another store has the same row in both
  pub row_alike : (k : ℕ) → k ≢ s → row (with_row q s w) k ≡ row (with_row q s v) k
  row_alike k other = get_or-set_other q.rows s k w no_row other ∙ sym (get_or-set_other q.rows s k v no_row other)

  -- what stands in a relation in the two rows does so in the rows of each store
  pub related : {X : Type 0} (R : X → X → Type 0) (f : StoreRow → X) → s < length q.rows → ((x : X) → R x x)
      → R (f w) (f v) → (k : ℕ) → R (f (row (with_row q s w) k)) (f (row (with_row q s v) k))
  related R f inside same here k = elim (cases_eq k s) [
    | inl at ↦ rw (at, row_here q s w inside, row_here q s v inside) here
    | inr other ↦ rw (row_alike k other) (same (f (row (with_row q s v) k)))
  ]

  -- what is the same of both rows is the same of all
  pub alike : {X : Type 0} (f : StoreRow → X) → s < length q.rows → f w ≡ f v → (k : ℕ)
      → f (row (with_row q s w) k) ≡ f (row (with_row q s v) k)
  alike f inside same = related ◌≡◌ f inside (λ _. refl) same

  -- a stretch has the same store in both
  pub stores_alike : w.id ≡ (row q s).id → v.id ≡ (row q s).id → (d : Stretch)
      → store_of (with_row q s w) d ≡ store_of (with_row q s v) d
  stores_alike of_w of_v d = same_store q s w of_w d ∙ sym (same_store q s v of_v d)

-- the channel of a store that is inner in a step which counts by channels has a limit
has_limit_there : (q : Dumping) (ds : List Stretch) (ts : List ℕ) → IsCut q ds ts → (t c : ℕ) → is_listed ts t ≡ true
    → is_inner_on q ds t c ≡ true → IsSome (limit q c t)
has_limit_there q ds ts cut t c listed inner =
    let counted = listed_is_counted q (λ _ _. 0) ds cut.stretches ts t cut.counted listed in
    inner_has_limit q (λ _ _. 0) ds cut.stretches t c counted.limited inner

-- an element of two lists that differ at one place
set-le : (xs : List ℕ) (i j a b : ℕ) → i < length xs → a ≤ b → get_or (set xs i a) j 0 ≤ get_or (set xs i b) j 0
set-le xs i j a b inside le = elim (cases_eq j i) [
  | inl here ↦
      let small = ap (λ k. get_or (set xs i a) k 0) here ∙ get_or-set_same xs i a 0 inside in
      let large = ap (λ k. get_or (set xs i b) k 0) here ∙ get_or-set_same xs i b 0 inside in
      omega arith
  | inr other ↦ omega (arith, get_or-set_other xs i j a 0 other, get_or-set_other xs i j b 0 other)
]

-- a problem with other windows and limits
abbrev limited_as : Dumping → List ℕ → List (Option ℕ) → List ℕ → Dumping
limited_as q ws ls ns = record q { windows = ws; limits = ls; step_limits = ns }

-- where two problems differ in windows and limits alone, a cut counts the same of its stretches
same_stretches : (q : Dumping) (ws vs : List ℕ) (ls ms : List (Option ℕ)) (ns os : List ℕ) (ds : List Stretch)
    (ts : List ℕ) → AreStretches (limited_as q ws ls ns) ds
    → All (ChangesStretch ◌≤◌ (limited_as q ws ls ns) (limited_as q vs ms os) ts) ds
unfolding size
same_stretches q ws vs ls ms ns os ds ts are k d inside = record {
  store = (are.each k d inside).store;
  start = λ _. omega arith;
  arrivals = λ _ _. omega arith;
  size = omega arith;
  channel = λ _ _ _. refl;
}

-- a cut of the problem with the larger number loses nothing in the one with the smaller
abbrev Grows : Dumping → Item → ℕ → ℕ → Type 0
Grows q i a b = (ds : List Stretch) (ts : List ℕ) → IsCut (with_number q i b) ds ts
    → HelpsNowhere (with_number q i b) (with_number q i a) ds ts

-- ---- a window

grows_window : (q : Dumping) (t a b : ℕ) → 1 ≤ t → t ≤ length q.windows → a ≤ b → Grows q (Window t) a b
grows_window q t a b first last le ds ts cut = record {
  come = refl;
  steps = length-set q.windows (t - 1) a ∙ sym (length-set q.windows (t - 1) b);
  channels = refl;
  stretches = same_stretches q (set q.windows (t - 1) b) (set q.windows (t - 1) a) q.limits q.limits q.step_limits
      q.step_limits ds ts cut.stretches;
  windows = λ u _. set-le q.windows (t - 1) (u - 1) a b (omega arith) le;
  limited = λ u c listed inner. has_limit_there (with_number q (Window t) b) ds ts cut u c listed inner;
  limits = λ _ _ _ _. omega arith;
}

-- ---- a limit

-- the lesser of two limits of which one grows
lesser-le : (a b : ℕ) (o : Option ℕ) → a ≤ b → unwrap_or (lesser (Some a) o) 0 ≤ unwrap_or (lesser (Some b) o) 0
lesser-le a b None le = le
lesser-le a b (Some n) le = omega (arith, le)

lesser_some : (a : ℕ) (o : Option ℕ) → IsSome (lesser (Some a) o)
lesser_some a None = refl
lesser_some a (Some n) = refl

-- a limit that counts where the same test passes
counted-le : (s t : Bool) (p r : Option ℕ) → s ≡ t → unwrap_or p 0 ≤ unwrap_or r 0
    → unwrap_or (cond s p None) 0 ≤ unwrap_or (cond t r None) 0
counted-le true t p r same le = rw (← same) le
counted-le false t p r same le = rw (← same) (omega arith)

counted_too : (s t : Bool) (p r : Option ℕ) → s ≡ t → (IsSome p → IsSome r) → IsSome (cond s p None)
    → IsSome (cond t r None)
counted_too true t p r same too some = rw (← same) (too some)
counted_too false t p r same too some = rw (← same) some

module _ (xs : List (Option ℕ)) (i j a b : ℕ) (inside : i < length xs) where
  -- the limits of two lists that differ at one place
  limit_at : (n : ℕ) → j ≡ i → get_or (set xs i (Some n)) j None ≡ Some n
  limit_at n here = ap (λ k. get_or (set xs i (Some n)) k None) here ∙ get_or-set_same xs i (Some n) None inside

  limit_off : (n m : ℕ) → j ≢ i → get_or (set xs i (Some n)) j None ≡ get_or (set xs i (Some m)) j None
  limit_off n m other = get_or-set_other xs i j (Some n) None other ∙ sym (get_or-set_other xs i j (Some m) None other)

  -- beside another limit the larger is no smaller
  lesser_of-le : (o : Option ℕ) → a ≤ b → unwrap_or (lesser (get_or (set xs i (Some a)) j None) o) 0
      ≤ unwrap_or (lesser (get_or (set xs i (Some b)) j None) o) 0
  lesser_of-le o le = elim (cases_eq j i) [
    | inl here ↦ rw (limit_at a here, limit_at b here) (lesser-le a b o le)
    | inr other ↦ omega (arith, ap (λ p. unwrap_or (lesser p o) 0) (limit_off a b other))
  ]

  -- the one has a limit where the other has
  lesser_too : (o : Option ℕ) → IsSome (lesser (get_or (set xs i (Some b)) j None) o)
      → IsSome (lesser (get_or (set xs i (Some a)) j None) o)
  lesser_too o some = elim (cases_eq j i) [
    | inl here ↦ subst (λ p. IsSome (lesser p o)) (sym (limit_at a here)) (lesser_some a o)
    | inr other ↦ subst (λ p. IsSome (lesser p o)) (limit_off b a other) some
  ]

grows_limit : (q : Dumping) (e a b : ℕ) → e < length q.limits → a ≤ b → Grows q (Limit e) a b
grows_limit q e a b inside le ds ts cut =
    let small = set q.limits e (Some a) in
    let large = set q.limits e (Some b) in
    let count : length small ≡ length large = length-set q.limits e (Some a) ∙ sym (length-set q.limits e (Some b)) in
    record {
      come = refl;
      steps = refl;
      channels = count;
      stretches = same_stretches q q.windows q.windows large small q.step_limits q.step_limits ds ts cut.stretches;
      windows = λ _ _. omega arith;
      limited = λ u c listed inner.
          counted_too (nat_lt c (length large)) (nat_lt c (length small)) _ _ (ap (nat_lt c) (sym count))
          (lesser_too q.limits e c a b inside (step_limit q c u))
          (has_limit_there (with_number q (Limit e) b) ds ts cut u c listed inner);
      limits = λ u c _ _.
          counted-le (nat_lt c (length small)) (nat_lt c (length large)) _ _ (ap (nat_lt c) count)
          (lesser_of-le q.limits e c a b inside (step_limit q c u) le);
    }

-- ---- a limit of a column

-- the lesser of a limit and another that grows, where there is that other
lesser_second-le : (o : Option ℕ) (there : Bool) (a b : ℕ) → a ≤ b
    → unwrap_or (lesser o (cond there (Some a) None)) 0 ≤ unwrap_or (lesser o (cond there (Some b) None)) 0
lesser_second-le None true a b le = le
lesser_second-le None false a b le = omega arith
lesser_second-le (Some n) true a b le = omega (arith, le)
lesser_second-le (Some n) false a b le = omega arith

lesser_second_too : (o : Option ℕ) (there : Bool) (a b : ℕ) → IsSome (lesser o (cond there (Some b) None))
    → IsSome (lesser o (cond there (Some a) None))
lesser_second_too None true a b some = refl
lesser_second_too None false a b some = some
lesser_second_too (Some n) true a b some = refl
lesser_second_too (Some n) false a b some = some

grows_column : (q : Dumping) (k t a b : ℕ) → IsDumping q → k < length q.limited → 1 ≤ t → t ≤ length q.windows
    → a ≤ b → Grows q (StepLimit k t) a b
grows_column q k t a b is column first last le ds ts cut =
    let n = length q.limited in
    let place = grid_place n t k in
    let at : ℕ → ℕ = λ c. position_or_len (λ e. eqb e c) q.limited in
    let inside : place < length q.step_limits = omega
    (arith, grid_place-lt n (length q.windows) t k column first last, is.by_step.table) in
    let cell_of : ℕ → ℕ → ℕ → ℕ = λ m c u. cell n (set q.step_limits place m) (at c) u in
    record {
      come = refl;
      steps = refl;
      channels = refl;
      stretches = same_stretches q q.windows q.windows q.limits q.limits (set q.step_limits place b)
          (set q.step_limits place a) ds ts cut.stretches;
      windows = λ _ _. omega arith;
      limited = λ u c listed inner.
          let passes = nat_lt c (length q.limits) in
          counted_too passes passes _ _ refl
          (lesser_second_too (setup_limit q c) (nat_lt (at c) n) (cell_of a c u) (cell_of b c u))
          (has_limit_there (with_number q (StepLimit k t) b) ds ts cut u c listed inner);
      limits = λ u c _ _.
          let passes = nat_lt c (length q.limits) in
          counted-le passes passes _ _ refl
          (lesser_second-le (setup_limit q c) (nat_lt (at c) n) (cell_of a c u) (cell_of b c u)
          (set-le q.step_limits place (grid_place n u (at c)) a b inside le));
    }

-- ---- a size

-- a store has no more room in a step where its setup gives it no more
sizes_related : (q : Dumping) (s : ℕ) (w v : StoreRow) (i u : ℕ)
    → (row (with_row q s w) i).size ≤ (row (with_row q s v) i).size
    → size (with_row q s w) i u ≤ size (with_row q s v) i u
unfolding size
sizes_related q s w v i u le = elim (cases_Bool (nat_lt (size_column q i) (length q.sized))) [
  | inl own ↦ rw own (omega (arith, le))
  | inr none ↦ rw none le
]

-- a problem with another row of a store, which begins with no less and has no more room, on the same channel
grows_row : (q : Dumping) (s : ℕ) (w v : StoreRow) → s < length q.rows → w.id ≡ (row q s).id → v.id ≡ (row q s).id
    → w.channel ≡ v.channel → v.start ≤ w.start → w.size ≤ v.size → (ds : List Stretch) (ts : List ℕ)
    → IsCut (with_row q s v) ds ts → HelpsNowhere (with_row q s v) (with_row q s w) ds ts
grows_row q s w v inside of_w of_v channels starts sizes ds ts cut =
    let rows = rows_alike q s w v in
    let store = stores_alike q s w v of_w of_v in
    record {
      come = refl;
      steps = refl;
      channels = refl;
      stretches = λ k d within.
          let e : Stretch = get_or ds k d in
          let i = store_of (with_row q s v) e in
          record {
            store = rw (store e, rows) (cut.stretches.each k d within).store;
            start = λ _.
                rw (store e) (related q s w v (λ (m n : ℕ). n ≤ m) (λ r. r.start) inside (λ _. omega arith) starts i);
            arrivals = λ u _. rw (store e, rows) (omega arith);
            size = rw (store e) (sizes_related q s w v i e.last
                (related q s w v ◌≤◌ (λ r. r.size) inside (λ _. omega arith) sizes i));
            channel = λ _ _ _. rw (store e) (alike q s w v (λ r. r.channel) inside channels i);
          };
      windows = λ _ _. omega arith;
      limited = λ u c listed inner. has_limit_there (with_row q s v) ds ts cut u c listed inner;
      limits = λ _ _ _ _. omega arith;
    }

grows_size : (q : Dumping) (s a b : ℕ) → s < length q.rows → a ≤ b → Grows q (Size s) a b
grows_size q s a b inside le =
    grows_row q s (resized (row q s) a) (resized (row q s) b) inside refl refl refl (omega arith) le

-- ---- a size of a column

-- no store is larger where no size of a step is
sizes-le : (q : Dumping) (place a b s u : ℕ) → place < length q.step_sizes → a ≤ b
    → size (record q { step_sizes = set q.step_sizes place a }) s u
    ≤ size (record q { step_sizes = set q.step_sizes place b }) s u
unfolding size
sizes-le q place a b s u inside le = elim (cases_Bool (nat_lt (size_column q s) (length q.sized))) [
  | inl own ↦
      let cells = set-le q.step_sizes place (grid_place (length q.sized) u (size_column q s)) a b inside le in
      rw own (omega (arith, cells))
  | inr none ↦ rw none (omega arith)
]

grows_step_size : (q : Dumping) (k t a b : ℕ) → IsDumping q → k < length q.sized → 1 ≤ t → t ≤ length q.windows
    → a ≤ b → Grows q (StepSize k t) a b
grows_step_size q k t a b is column first last le ds ts cut =
    let n = length q.sized in
    let place = grid_place n t k in
    let inside : place < length q.step_sizes = omega
    (arith, grid_place-lt n (length q.windows) t k column first last, is.sizes.table) in
    record {
      come = refl;
      steps = refl;
      channels = refl;
      stretches = λ j d within.
          let e : Stretch = get_or ds j d in
          record {
            store = (cut.stretches.each j d within).store;
            start = λ _. omega arith;
            arrivals = λ _ _. omega arith;
            size = sizes-le q place a b (store_of q e) e.last inside le;
            channel = λ _ _ _. refl;
          };
      windows = λ _ _. omega arith;
      limited = λ u c listed inner. has_limit_there (with_number q (StepSize k t) b) ds ts cut u c listed inner;
      limits = λ _ _ _ _. omega arith;
    }

-- ---- any of them

pub grows : (q : Dumping) (i : Item) (a b : ℕ) → IsDumping q → IsItem q i → a ≤ b → Grows q i a b
grows q (Window t) a b is item le = grows_window q t a b item.0 item.1 le
grows q (Size s) a b is item le = grows_size q s a b item le
grows q (Limit c) a b is item le = grows_limit q c a b item.0 le
grows q (StepLimit k t) a b is item le = grows_column q k t a b is item.0 item.1 item.2 le
grows q (StepSize k t) a b is item le = grows_step_size q k t a b is item.0 item.1 item.2 le
