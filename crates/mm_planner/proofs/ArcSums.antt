-- A sum over the arcs of a problem's network is a sum over steps, kind by kind.
use Rattle.std.proofs.Common.{◌≡◌, ℕ, zero, suc, ◌+◌, ◌-◌, ◌*◌, ◌≤◌, List, [], ◌∷◌, ◌++◌, length, get_or, refl, ap, ◌∙◌, arith, length-append}
use Rattle.std.specs.Prelude.{map}
use Rattle.std.specs.List.{sum_by, range_with_len, flat_map}
use Rattle.std.proofs.lemmas.List.Sums.{sum_by-cons}
use Rattle.std.proofs.lemmas.List.FromFn.{length-map-range_with_len}
use Rattle.mm_base.proofs.Grids.{grid}
use Rattle.mm_base.proofs.RangeSums.{sum_by_range_shift}
use Rattle.mm_base.proofs.Sums.{sum_by-add, sum_by-same}
use Rattle.mm_problem.specs.Dumping.{Dumping, stores, channels}
use Rattle.mm_flow.specs.declared.arc.Arc.{Arc}
use Rattle.mm_flow.specs.Graph.{no_arc, arc, places}
use Rattle.mm_planner.specs.declared.way.Way.TheVariants.{Come, Hold, Keep, Take}
use Rattle.mm_planner.specs.Network.{Inflows, limit_arc, window_arc, step_arcs, arcs_of, net_by, store_arc}
use Rattle.mm_planner.specs.Taken.{step_width, first_arc, take_place}

-- the numbers of the other arcs of a step
abbrev pub come_place : Dumping → ℕ → ℕ → ℕ
come_place q t s = first_arc q t + s

-- where blocks are held
abbrev pub hold_place : Dumping → ℕ → ℕ → ℕ
hold_place q t s = first_arc q t + length q.rows + s

-- where blocks are kept
abbrev pub keep_place : Dumping → ℕ → ℕ → ℕ
keep_place q t s = first_arc q t + 2 * length q.rows + s

-- where blocks pass a channel
abbrev pub limit_place : Dumping → ℕ → ℕ → ℕ
limit_place q t c = first_arc q t + 4 * length q.rows + c

-- where blocks are sent
abbrev pub window_place : Dumping → ℕ → ℕ
window_place q t = first_arc q t + 4 * length q.rows + length q.limits

-- a sum over arcs with their numbers, of which i is the first
arcs_sum : (ℕ → Arc → ℕ) → ℕ → List Arc → ℕ
arcs_sum F i [] = 0
arcs_sum F i (x ∷ xs) = F i x + arcs_sum F (i + 1) xs

-- a sum over one list of arcs after another
arcs_sum-append : (F : ℕ → Arc → ℕ) (i : ℕ) (xs ys : List Arc) → arcs_sum F i (xs ++ ys) ≡ arcs_sum F i xs + arcs_sum F (i + length xs) ys
unfolding arcs_sum
arcs_sum-append F i [] ys =
    let same : i ≡ i + 0 = omega arith in
    omega (arith, ap (λ j. arcs_sum F j ys) same)
arcs_sum-append F i (x ∷ xs) ys =
    let same : i + 1 + length xs ≡ i + suc (length xs) = omega arith in
    omega (arith, arcs_sum-append F (i + 1) xs ys, ap (λ j. arcs_sum F j ys) same)

-- a sum over the arcs of a range
arcs_sum-map : (F : ℕ → Arc → ℕ) (make : ℕ → Arc) (j a n i : ℕ) → i ≡ j + a → arcs_sum F i (map make (range_with_len a n)) ≡ sum_by (λ s. F (j + s) (make s)) (range_with_len a n)
unfolding arcs_sum
arcs_sum-map F make j a zero i at = refl
arcs_sum-map F make j a (suc n) i at =
    omega (arith, sum_by-cons (λ s. F (j + s) (make s)) a (range_with_len (a + 1) n), ap (λ k. F k (make a)) at, arcs_sum-map F make j (a + 1) n (i + 1) (omega arith))

-- the first arc of the next step
next_first : (t w : ℕ) → 1 ≤ t → (t - 1) * w + w ≡ (t + 1 - 1) * w
next_first t w first =
    let e : t + 1 - 1 ≡ t - 1 + 1 = omega arith in
    omega (arith, ap (λ k. k * w) e)

-- a sum over steps that have as many arcs each
arcs_sum-steps : (F : ℕ → Arc → ℕ) (arcs_at : ℕ → List Arc) (w : ℕ) → ((t : ℕ) → length (arcs_at t) ≡ w) → (t n i : ℕ) → 1 ≤ t → i ≡ (t - 1) * w → arcs_sum F i (flat_map arcs_at (range_with_len t n)) ≡ sum_by (λ u. arcs_sum F ((u - 1) * w) (arcs_at u)) (range_with_len t n)
unfolding arcs_sum
arcs_sum-steps F arcs_at w each t zero i first at = refl
arcs_sum-steps F arcs_at w each t (suc n) i first at =
    let next : i + length (arcs_at t) ≡ (t + 1 - 1) * w = omega (arith, each t, next_first t w first) in
    omega (arith, arcs_sum-append F i (arcs_at t) (flat_map arcs_at (range_with_len (t + 1) n)), sum_by-cons (λ u. arcs_sum F ((u - 1) * w) (arcs_at u)) t (range_with_len (t + 1) n), ap (λ k. arcs_sum F k (arcs_at t)) at, arcs_sum-steps F arcs_at w each (t + 1) n (i + length (arcs_at t)) (omega arith) next)

-- a sum over numbers of arcs
arcs_sum-places : (F : ℕ → Arc → ℕ) (xs : List Arc) (i : ℕ) → sum_by (λ k. F (i + k) (get_or xs k no_arc)) (range_with_len 0 (length xs)) ≡ arcs_sum F i xs
unfolding arcs_sum
arcs_sum-places F [] i = refl
arcs_sum-places F (x ∷ xs) i =
    let h : ℕ → ℕ = λ k. F (i + k) (get_or (x ∷ xs) k no_arc) in
    let at : i + 0 ≡ i = omega arith in
    let later : sum_by (λ k. h (k + 1)) (range_with_len 0 (length xs)) ≡ sum_by (λ k. F (i + 1 + k) (get_or xs k no_arc)) (range_with_len 0 (length xs)) =
    sum_by-same (λ k. h (k + 1)) (λ k. F (i + 1 + k) (get_or xs k no_arc)) (range_with_len 0 (length xs))
    (λ j d _. let k = get_or (range_with_len 0 (length xs)) j d in let one : k + 1 ≡ suc k = omega arith in let same : i + suc k ≡ i + 1 + k = omega arith in ap h one ∙ ap (λ j. F j (get_or xs k no_arc)) same) in
    omega (arith, sum_by-cons h 0 (range_with_len 1 (length xs)), sum_by_range_shift h 0 (length xs), later, arcs_sum-places F xs (i + 1), ap (λ j. F j x) at)

-- six lists of arcs one after another
arcs_sum-six : (F : ℕ → Arc → ℕ) (i r l : ℕ) (a b c d e : List Arc) (w : Arc) → length a ≡ r → length b ≡ r → length c ≡ r → length d ≡ r → length e ≡ l → arcs_sum F i (a ++ b ++ c ++ d ++ e ++ w ∷ []) ≡ arcs_sum F i a + arcs_sum F (i + r) b + arcs_sum F (i + 2 * r) c + arcs_sum F (i + 3 * r) d + arcs_sum F (i + 4 * r) e + F (i + 4 * r + l) w
unfolding arcs_sum
arcs_sum-six F i r l a b c d e w of_a of_b of_c of_d of_e =
    let at_b : i + length a ≡ i + r = omega arith in
    let at_c : i + length (a ++ b) ≡ i + 2 * r = omega (arith, length-append a b) in
    let at_d : i + length (a ++ b ++ c) ≡ i + 3 * r = omega (arith, length-append a b, length-append (a ++ b) c) in
    let at_e : i + length (a ++ b ++ c ++ d) ≡ i + 4 * r = omega (arith, length-append a b, length-append (a ++ b) c, length-append (a ++ b ++ c) d) in
    let at_w : i + length (a ++ b ++ c ++ d ++ e) ≡ i + 4 * r + l = omega (arith, at_e, length-append (a ++ b ++ c ++ d) e) in
    omega (
      arith,
      arcs_sum-append F i (a ++ b ++ c ++ d ++ e) (w ∷ []),
      arcs_sum-append F i (a ++ b ++ c ++ d) e,
      arcs_sum-append F i (a ++ b ++ c) d,
      arcs_sum-append F i (a ++ b) c,
      arcs_sum-append F i a b,
      ap (λ j. arcs_sum F j b) at_b,
      ap (λ j. arcs_sum F j c) at_c,
      ap (λ j. arcs_sum F j d) at_d,
      ap (λ j. arcs_sum F j e) at_e,
      ap (λ j. F j w) at_w,
    )

-- how many arcs a step has
pub length-step : (q : Dumping) (a : Inflows) (t : ℕ) → length (step_arcs q a t) ≡ step_width q
length-step q a t =
    let a1 = map (store_arc q a Come t) (stores q) in
    let b = map (store_arc q a Hold t) (stores q) in
    let c = map (store_arc q a Keep t) (stores q) in
    let d = map (store_arc q a Take t) (stores q) in
    let e = map (limit_arc q t) (channels q) in
    omega (
      arith,
      length-append (a1 ++ b ++ c ++ d ++ e) (window_arc q t ∷ []),
      length-append (a1 ++ b ++ c ++ d) e,
      length-append (a1 ++ b ++ c) d,
      length-append (a1 ++ b) c,
      length-append a1 b,
      length-map-range_with_len (store_arc q a Come t) 0 (length q.rows),
      length-map-range_with_len (store_arc q a Hold t) 0 (length q.rows),
      length-map-range_with_len (store_arc q a Keep t) 0 (length q.rows),
      length-map-range_with_len (store_arc q a Take t) 0 (length q.rows),
      length-map-range_with_len (limit_arc q t) 0 (length q.limits),
    )

-- of a function of an arc and its number, what it comes to over one kind of arc
abbrev pub kind_sum : (ℕ → Arc → ℕ) → (ℕ → ℕ → ℕ) → (ℕ → ℕ → Arc) → ℕ → ℕ → ℕ
kind_sum F place make t k = F (place t k) (make t k)

-- a sum over the arcs of a step, kind by kind
step_sum : (q : Dumping) (a : Inflows) (F : ℕ → Arc → ℕ) (t : ℕ) → arcs_sum F (first_arc q t) (step_arcs q a t) ≡ sum_by (kind_sum F (come_place q) (store_arc q a Come) t) (stores q) + sum_by (kind_sum F (hold_place q) (store_arc q a Hold) t) (stores q) + sum_by (kind_sum F (keep_place q) (store_arc q a Keep) t) (stores q) + sum_by (kind_sum F (take_place q) (store_arc q a Take) t) (stores q) + sum_by (kind_sum F (limit_place q) (limit_arc q) t) (channels q) + F (window_place q t) (window_arc q t)
step_sum q a F t =
    let i = first_arc q t in
    let r = length q.rows in
    let l = length q.limits in
    omega (
      arith,
      arcs_sum-six F i r l (map (store_arc q a Come t) (stores q)) (map (store_arc q a Hold t) (stores q)) (map (store_arc q a Keep t) (stores q)) (map (store_arc q a Take t) (stores q)) (map (limit_arc q t) (channels q)) (window_arc q t)
          (length-map-range_with_len (store_arc q a Come t) 0 r) (length-map-range_with_len (store_arc q a Hold t) 0 r) (length-map-range_with_len (store_arc q a Keep t) 0 r) (length-map-range_with_len (store_arc q a Take t) 0 r) (length-map-range_with_len (limit_arc q t) 0 l),
      arcs_sum-map F (store_arc q a Come t) i 0 r i (omega arith),
      arcs_sum-map F (store_arc q a Hold t) (i + r) 0 r (i + r) (omega arith),
      arcs_sum-map F (store_arc q a Keep t) (i + 2 * r) 0 r (i + 2 * r) (omega arith),
      arcs_sum-map F (store_arc q a Take t) (i + 3 * r) 0 r (i + 3 * r) (omega arith),
      arcs_sum-map F (limit_arc q t) (i + 4 * r) 0 l (i + 4 * r) (omega arith),
    )

-- a sum over all arcs, kind by kind
pub arcs_by_kind : (q : Dumping) (a : Inflows) (F : ℕ → Arc → ℕ) → sum_by (λ k. F k (arc (net_by q a) k)) (places (net_by q a)) ≡ grid (kind_sum F (come_place q) (store_arc q a Come)) (length q.windows) (length q.rows) + grid (kind_sum F (hold_place q) (store_arc q a Hold)) (length q.windows) (length q.rows) + grid (kind_sum F (keep_place q) (store_arc q a Keep)) (length q.windows) (length q.rows) + grid (kind_sum F (take_place q) (store_arc q a Take)) (length q.windows) (length q.rows) + grid (kind_sum F (limit_place q) (limit_arc q)) (length q.windows) (length q.limits) + sum_by (λ t. F (window_place q t) (window_arc q t)) (range_with_len 1 (length q.windows))
arcs_by_kind q a F =
    let m = length q.windows in
    let steps_range = range_with_len 1 m in
    let come : ℕ → ℕ = λ t. sum_by (kind_sum F (come_place q) (store_arc q a Come) t) (stores q) in
    let hold : ℕ → ℕ = λ t. sum_by (kind_sum F (hold_place q) (store_arc q a Hold) t) (stores q) in
    let keep : ℕ → ℕ = λ t. sum_by (kind_sum F (keep_place q) (store_arc q a Keep) t) (stores q) in
    let takes : ℕ → ℕ = λ t. sum_by (kind_sum F (take_place q) (store_arc q a Take) t) (stores q) in
    let limits : ℕ → ℕ = λ t. sum_by (kind_sum F (limit_place q) (limit_arc q) t) (channels q) in
    let windows : ℕ → ℕ = λ t. F (window_place q t) (window_arc q t) in
    let zero_first : sum_by (λ k. F k (arc (net_by q a) k)) (places (net_by q a)) ≡ sum_by (λ k. F (0 + k) (arc (net_by q a) k)) (places (net_by q a)) =
    sum_by-same (λ k. F k (arc (net_by q a) k)) (λ k. F (0 + k) (arc (net_by q a) k)) (places (net_by q a)) (λ i d _. let k = get_or (places (net_by q a)) i d in let same : k ≡ 0 + k = omega arith in ap (λ j. F j (arc (net_by q a) k)) same) in
    let by_steps = arcs_sum-steps F (step_arcs q a) (step_width q) (length-step q a) 1 m 0 (omega arith) (omega arith) in
    let each = sum_by-same (λ t. arcs_sum F (first_arc q t) (step_arcs q a t)) (λ t. come t + hold t + keep t + takes t + limits t + windows t) steps_range (λ i d _. step_sum q a F (get_or steps_range i d)) in
    omega (
      arith,
      zero_first,
      arcs_sum-places F (arcs_of q a m) 0,
      by_steps,
      each,
      sum_by-add (λ t. come t + hold t + keep t + takes t + limits t) windows steps_range,
      sum_by-add (λ t. come t + hold t + keep t + takes t) limits steps_range,
      sum_by-add (λ t. come t + hold t + keep t) takes steps_range,
      sum_by-add (λ t. come t + hold t) keep steps_range,
      sum_by-add come hold steps_range,
    )
