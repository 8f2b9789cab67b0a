-- The numbers of a problem, as loops list them.
use Rattle.std.proofs.Common.{◌≡◌, ℕ, ◌+◌, ◌-◌, ◌<◌, ◌≤◌, Bool, true, false, cond, List, [], ◌∷◌, ◌++◌, map, take}
use Rattle.std.proofs.Common.{get_or, length, ◌∙◌, refl, sym, ap, subst, arith, add-one, append_assoc, append-nil}
use Rattle.std.specs.Prelude.{filter, All}
use Rattle.std.specs.List.{range_with_len}
use Rattle.std.proofs.lemmas.List.{map-append, take_more}
use Rattle.std.proofs.lemmas.List.Elements.{filter-append, All-append, All-map, All-push}
use Rattle.std.proofs.lemmas.List.FromFn.{map-range_with_len_more}
use Rattle.mm_base.proofs.Ranges.{range_with_len_more, range_with_len_next, All-range_with_len}
use Rattle.mm_base.proofs.Ranges.{All-filter-range_with_len, All-flat_map-range_with_len}
use Rattle.mm_chart.proofs.Ranges.{flat_map_first}
use Rattle.mm_problem.specs.Dumping.{Dumping, steps, stores, channels}
use Rattle.mm_sensitivity.specs.declared.item.Item.{Item}
use Rattle.mm_sensitivity.specs.declared.item.Item.TheVariants.{Window, Size, Limit, StepLimit, StepSize}
use Rattle.mm_sensitivity.specs.declared.worth.Worth.{Worth}
use Rattle.mm_sensitivity.specs.Items.{IsItem, has_limit, column_items, size_items, items}
use Rattle.mm_sensitivity.specs.Worth.{IsWorth}

-- what is made of one number more
pub map_more : {X : Type 0} (make : ℕ → X) (n : ℕ)
    → map make (range_with_len 0 (n + 1)) ≡ map make (range_with_len 0 n) ++ make n ∷ []
map_more make n = map-range_with_len_more make 0 n n (omega arith)

-- the same for steps, which count from 1
pub map_next : {X : Type 0} (make : ℕ → X) (t : ℕ) → 1 ≤ t
    → map make (range_with_len 1 (t + 1 - 1)) ≡ map make (range_with_len 1 (t - 1)) ++ make t ∷ []
map_next make t first = ap (map make) (range_with_len_next t first)
    ∙ map-append make (range_with_len 1 (t - 1)) (t ∷ [])

-- what is made of one number more, if it passes
made_one : {X : Type 0} (make : ℕ → X) (b : Bool) (n : ℕ) → map make (cond b (n ∷ []) []) ≡ cond b (make n ∷ []) []
made_one make true n = refl
made_one make false n = refl

pub passed_more : {X : Type 0} (make : ℕ → X) (p : ℕ → Bool) (n : ℕ)
    → map make (filter p (range_with_len 0 (n + 1)))
    ≡ map make (filter p (range_with_len 0 n)) ++ cond (p n) (make n ∷ []) []
passed_more make p n =
    ap (λ k. map make (filter p (range_with_len 0 k))) (add-one n)
    ∙ ap (λ ns. map make (filter p ns)) (range_with_len_more 0 n n (omega arith))
    ∙ ap (map make) (filter-append p (range_with_len 0 n) (n ∷ []))
    ∙ map-append make (filter p (range_with_len 0 n)) (filter p (n ∷ []))
    ∙ ap (λ xs. map make (filter p (range_with_len 0 n)) ++ xs) (made_one make (p n) n)

-- one number more, in each of the loops
pub ruleset listing = (append_assoc, append-nil, map_next, map_more, passed_more, flat_map_first)

-- each of them is one
items_are : (q : Dumping) → All (IsItem q) (items q)
items_are q =
    let in_steps : (make : ℕ → Item) → ((t : ℕ) → 1 ≤ t → t ≤ length q.windows → IsItem q (make t))
    → All (IsItem q) (map make (steps q)) = λ make is. All-map (IsItem q) make (steps q)
    (All-range_with_len (λ t. IsItem q (make t)) 1 (length q.windows) (λ t from to. is t from (omega (arith, to)))) in
    let windows = in_steps Window (λ t from to. (from, to)) in
    let sizes = All-map (IsItem q) Size (stores q)
    (All-range_with_len (λ s. IsItem q (Size s)) 0 (length q.rows) (λ s from to. omega (arith, to))) in
    let limits = All-map (IsItem q) Limit (filter (has_limit q) (channels q))
    (All-filter-range_with_len (λ c. IsItem q (Limit c)) (has_limit q) 0 (length q.limits)
    (λ c from to passes. (omega (arith, to), passes))) in
    let columns = All-flat_map-range_with_len (IsItem q) (column_items q) 0 (length q.limited)
    (λ k low high. in_steps (StepLimit k) (λ t from to. (omega (arith, high), from, to))) in
    let by_store = All-flat_map-range_with_len (IsItem q) (size_items q) 0 (length q.sized)
    (λ k low high. in_steps (StepSize k) (λ t from to. (omega (arith, high), from, to))) in
    All-append (IsItem q) _ _ (All-append (IsItem q) _ _ (All-append (IsItem q) _ _
    (All-append (IsItem q) _ _ windows sizes) limits) columns) by_store

pub all_items : (q : Dumping) (xs : List Item) → xs ≡ items q → All (IsItem q) xs
all_items q xs same = subst (All (IsItem q)) (sym same) (items_are q)

-- ---- one number more is worth something

pub items_more : (old new : List Worth) (xs : List Item) (i : ℕ) (w : Worth) (d : Item) → i < length xs
    → map (λ (v : Worth). v.item) old ≡ take i xs → w.item ≡ get_or xs i d → new ≡ old ++ w ∷ []
    → map (λ (v : Worth). v.item) new ≡ take (i + 1) xs
items_more old new xs i w d inside before is added =
    ap (map (λ (v : Worth). v.item)) added ∙ map-append (λ (v : Worth). v.item) old (w ∷ [])
    ∙ ap (λ ys. ys ++ w.item ∷ []) before ∙ ap (λ y. take i xs ++ y ∷ []) is ∙ sym (take_more xs i d inside)

pub each_more : (q : Dumping) (old new : List Worth) (w : Worth) → All (IsWorth q) old → IsWorth q w
    → new ≡ old ++ w ∷ [] → All (IsWorth q) new
each_more q old new w before is added = subst (All (IsWorth q)) (sym added) (All-push (IsWorth q) old w before is)
