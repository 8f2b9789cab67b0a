-- A cut of the rest of a problem after a step is one of the whole problem, that many steps later.
use Rattle.std.proofs.Common.{◌≡◌, ℕ, ◌+◌, ◌<◌, ◌≤◌, ◌&&◌, ◌||◌, ◌==◌, nat_le, nat_lt, Bool, List, [], ◌∷◌, length}
use Rattle.std.proofs.Common.{length-drop, get_or, map, refl, ap, ap₂, sym, ◌∙◌, subst, inl, inr, arith}
use Rattle.std.specs.Prelude.{◌≢◌, if◌then◌else◌, IsSome, IsTrue}
use Rattle.std.specs.List.{list_any, position_or_len}
use Rattle.std.specs.Str.{bytes_eq}
use Rattle.std.proofs.lemmas.Bool.Decides.{nat_tests}
use Rattle.std.proofs.lemmas.List.Elements.{All-contains, All-map}
use Rattle.std.proofs.lemmas.List.Folds.{Any-from_list_any}
use Rattle.std.proofs.lemmas.List.Sums.{fails_before_first, passes_at_first, position_or_len_is}
use Rattle.std.proofs.lemmas.List.Sums.{prefix_len-le-length}
use Rattle.mm_base.proofs.Pairs.{AllPairs-map}
use Rattle.mm_base.specs.declared.rows.StoreRow.{StoreRow}
use Rattle.mm_problem.specs.declared.come.Arrivals.{Arrivals}
use Rattle.mm_problem.specs.declared.come.Arrivals.TheVariants.{Before, During}
use Rattle.mm_problem.specs.Dumping.{Dumping, limit, no_row, place}
use Rattle.mm_plan.specs.Volumes.{Amounts}
use Rattle.mm_plan.specs.declared.stretch.Stretch.{Stretch}
use Rattle.mm_cut.specs.Counts.{IsCounted, IsLimited}
use Rattle.mm_cut.specs.Cuts.{IsCut}
use Rattle.mm_cut.specs.Stretches.{AreApart, AreStretches, IsStretch, channel_of, goes_past, inner_end, is_inner}
use Rattle.mm_cut.specs.Stretches.{store_of}
use Rattle.mm_cut.proofs.StretchLosses.{inner_end-le}
use Rattle.mm_rest.specs.Rests.{rest_after}
use Rattle.mm_rest.proofs.Later.{as_many, limit_at, row_at}
use Rattle.mm_keep.specs.Keeps.{later_counts, later_stretch}

-- a test finds the same place in lists whose elements it tells apart alike
same_position : {A : Type 0} (p : A → Bool) (d : A) (xs ys : List A) → length xs ≡ length ys
    → ((k : ℕ) → k < length ys → p (get_or xs k d) ≡ p (get_or ys k d)) → position_or_len p xs ≡ position_or_len p ys
same_position p d xs ys count same =
    let most : position_or_len p ys ≤ length ys = prefix_len-le-length _ ys in
    position_or_len_is p xs (position_or_len p ys) d (omega (arith, most, count))
    (λ k before. same k (omega (arith, most)) ∙ fails_before_first p ys k d before)
    (λ inside. same (position_or_len p ys) (omega (arith, count))
    ∙ passes_at_first p ys d (omega (arith, count)))

-- a test finds an element of a mapped list where it finds one of the list
any_mapped : {A B : Type 0} (p : B → Bool) (r : A → Bool) (make : A → B) → ((a : A) → p (make a) ≡ r a)
    → (xs : List A) → list_any p (map make xs) ≡ list_any r xs
any_mapped p r make same [] = refl
any_mapped p r make same (a ∷ xs) = ap₂ (λ b c. b || c) (same a) (any_mapped p r make same xs)

-- ---- numbers that many steps later

-- the first step of a stretch, against a later step
le_later : (n first a t : ℕ) → first ≤ n + 1 → 1 ≤ t
    → nat_le (if a == 1 then first else n + a) (n + t) ≡ nat_le a t
le_later n first a t until later = grind (arith, nat_tests)

-- it is none of the steps before the first
from_first : (n first a : ℕ) → 1 ≤ first → 1 ≤ a → 1 ≤ (if a == 1 then first else n + a)
from_first n first a from after = grind (arith, nat_tests)

to_last : (n first a b : ℕ) → first ≤ n + 1 → 1 ≤ a → a ≤ b → (if a == 1 then first else n + a) ≤ n + b
to_last n first a b until after order = grind (arith, nat_tests)

-- a later stretch stays a later one
after_last : (n first a b : ℕ) → 1 ≤ b → b < a → n + b < (if a == 1 then first else n + a)
after_last n first a b later order = grind (arith, nat_tests)

lt_later : (n a b : ℕ) → nat_lt (n + a) (n + b) ≡ nat_lt a b
lt_later n a b = grind (arith, nat_tests)

-- ---- inner steps

inner_end_later : (come : Arrivals) (n first : ℕ) (d : Stretch)
    → inner_end come (later_stretch n first d) ≡ n + inner_end come d
inner_end_later Before n first d = omega arith
inner_end_later During n first d = omega arith

-- a counted step is a step of the problem
pub counted_within : (q : Dumping) (ds : List Stretch) (t : ℕ) → AreStretches q ds → IsCounted q ds t
    → (1 ≤ t) × (t ≤ length q.windows)
counted_within q ds t are is =
    let some = Any-from_list_any (goes_past q t) ds is.inner in
    let stretch = All-contains (IsStretch q) ds some.1 are.each (some.0, some.2, some.3) in
    let first = stretch.first in
    let last = stretch.last in
    let passed = some.4 in
    let end = inner_end-le q.come some.1 in
    (grind (arith, nat_tests), grind (arith, nat_tests))

module _ (q : Dumping) (x : Amounts) (n : ℕ) where
  -- the rest has the same stores
  place_at : (id : List ℕ) → place (rest_after q x n) id ≡ place q id
  place_at id = same_position (λ r. bytes_eq r.id id) no_row (rest_after q x n).rows q.rows (as_many q x n)
      (λ k store. ap (λ (r : StoreRow). bytes_eq r.id id) (row_at q x n k store))

  channel_at : (d : Stretch) → IsStretch (rest_after q x n) d → channel_of (rest_after q x n) d ≡ channel_of q d
  channel_at d is =
      let store : store_of q d < length q.rows = omega (arith, place_at d.store, as_many q x n, is.store) in
      ap (λ s. (get_or (rest_after q x n).rows s no_row).channel) (place_at d.store)
      ∙ ap (λ (r : StoreRow). r.channel) (row_at q x n (store_of q d) store)

  module _ (first : ℕ) (from : 1 ≤ first) (until : first ≤ n + 1) where
    goes_at : (d : Stretch) (t : ℕ) → 1 ≤ t
        → goes_past q (n + t) (later_stretch n first d) ≡ goes_past (rest_after q x n) t d
    goes_at d t later = ap₂ (λ a b. a && b) (le_later n first d.first t until later)
        (ap (nat_lt (n + t)) (inner_end_later q.come n first d) ∙ lt_later n t (inner_end q.come d))

    inner_at : (ds : List Stretch) (t : ℕ) → 1 ≤ t
        → is_inner q (map (later_stretch n first) ds) (n + t) ≡ is_inner (rest_after q x n) ds t
    inner_at ds t later = any_mapped (goes_past q (n + t)) (goes_past (rest_after q x n) t) (later_stretch n first)
        (λ d. goes_at d t later) ds

    -- ---- stretches and counted steps

    stretch_at : n ≤ length q.windows → (d : Stretch) → IsStretch (rest_after q x n) d
        → IsStretch q (later_stretch n first d)
    stretch_at before d is = record {
      store = omega (arith, place_at d.store, as_many q x n, is.store);
      first = from_first n first d.first from is.first;
      order = to_last n first d.first d.last until is.first is.order;
      last = omega (arith, is.last, length-drop n q.windows);
    }

    apart_at : (d e : Stretch) → IsStretch (rest_after q x n) d → IsStretch (rest_after q x n) e → AreApart d e
        → AreApart (later_stretch n first d) (later_stretch n first e)
    apart_at d e of_d of_e apart same = elim (apart same) [
      | inl one ↦ inl (after_last n first e.first d.last (omega (arith, of_d.first, of_d.order)) one)
      | inr other ↦ inr (after_last n first d.first e.last (omega (arith, of_e.first, of_e.order)) other)
    ]

    limited_at : (d : Stretch) (t : ℕ) → 1 ≤ t → IsStretch (rest_after q x n) d → IsLimited (rest_after q x n) t d
        → IsLimited q (n + t) (later_stretch n first d)
    limited_at d t later is limited goes = subst IsSome
        (ap (λ c. limit (rest_after q x n) c t) (channel_at d is) ∙ limit_at q x n (channel_of q d) t later)
        (limited (subst IsTrue (goes_at d t later) goes))

    counted_at : (ds : List Stretch) (t : ℕ) → AreStretches (rest_after q x n) ds
        → IsCounted (rest_after q x n) ds t → IsCounted q (map (later_stretch n first) ds) (n + t)
    counted_at ds t are is =
        let later = (counted_within (rest_after q x n) ds t are is).0 in
        record {
          inner = subst IsTrue (sym (inner_at ds t later)) is.inner;
          limited = All-map (IsLimited q (n + t)) (later_stretch n first) ds (λ k d inside.
              limited_at (get_or ds k d) t later (are.each k d inside) (is.limited k d inside));
        }

    pub later_cut : (ds : List Stretch) (ts : List ℕ) → n ≤ length q.windows → IsCut (rest_after q x n) ds ts
        → IsCut q (map (later_stretch n first) ds) (later_counts n ts)
    later_cut ds ts before is = record {
      stretches = record {
        each = All-map (IsStretch q) (later_stretch n first) ds
            (λ k d inside. stretch_at before (get_or ds k d) (is.stretches.each k d inside));
        apart = AllPairs-map AreApart (later_stretch n first) ds (λ i j d low high.
            apart_at (get_or ds i d) (get_or ds j d) (is.stretches.each i d (omega (arith, low, high)))
            (is.stretches.each j d high) (is.stretches.apart i j d low high));
      };
      counted = record {
        each = All-map (IsCounted q (map (later_stretch n first) ds)) (λ t. n + t) ts
            (λ k d inside. counted_at ds (get_or ts k d) is.stretches (is.counted.each k d inside));
        once = AllPairs-map ◌≢◌ (λ t. n + t) ts
            (λ i j d low high same. is.counted.once i j d low high (omega (arith, same)));
      };
    }
