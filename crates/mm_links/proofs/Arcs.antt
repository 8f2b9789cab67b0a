-- Sums over the arcs of the network, kind by kind.
use Rattle.std.proofs.Common.{◌≡◌, ℕ, zero, suc, ◌+◌, ◌-◌, ◌*◌, ◌/◌, ◌%◌, ◌<◌, ltb, Bool, true, false, cond, refl, ◌∙◌}
use Rattle.std.proofs.Common.{ap, arith, List}
use Rattle.std.proofs.Common.{length}
use Rattle.std.specs.Prelude.{is_some}
use Rattle.std.specs.List.{range_with_len, sum_by}
use Rattle.std.proofs.lemmas.Bool.{cond-true, cond-false, lt-ltb, le-ltb}
use Rattle.mm_base.proofs.RangeSums.{sum_by_range_more, sum_by_range_same}
use Rattle.mm_base.specs.declared.limits.TheConstants.{CHANNELS}
use Rattle.mm_flow.specs.declared.arc.Arc.{Arc}
use Rattle.mm_flow.specs.Graph.{Graph, arc, places}
use Rattle.mm_links.specs.declared.link.Link.{Link}
use Rattle.mm_links.specs.Rooms.{channels}
use Rattle.mm_links.specs.Shared.{numbers}
use Rattle.mm_links.specs.Net.{limit_arc, amount_arc, window_arc, shares, arc_of, arc_count, IsBuilt}

-- a sum over a range is the sum over its front and over the rest
range_split : (h : ℕ → ℕ) (a b : ℕ)
    → sum_by h (range_with_len 0 (a + b)) ≡ sum_by h (range_with_len 0 a) + sum_by (λ i. h (a + i)) (range_with_len 0 b)
range_split h a zero =
    let same : a + 0 ≡ a = omega arith in
    omega (arith, ap (λ k. sum_by h (range_with_len 0 k)) same)
range_split h a (suc b) =
    let more : a + suc b ≡ a + b + 1 = omega arith in
    let one : suc b ≡ b + 1 = omega arith in
    omega (
      arith,
      ap (λ k. sum_by h (range_with_len 0 k)) more,
      ap (λ k. sum_by (λ i. h (a + i)) (range_with_len 0 k)) one,
      sum_by_range_more h 0 (a + b) (a + b) (omega arith),
      sum_by_range_more (λ i. h (a + i)) 0 b b (omega arith),
      range_split h a b,
    )

-- a sum over rows of one width is the sum of the rows' sums
rows_split : (h : ℕ → ℕ) (n : ℕ) → sum_by h (range_with_len 0 (n * CHANNELS))
    ≡ sum_by (λ l. sum_by (λ c. h (l * CHANNELS + c)) channels) (range_with_len 0 n)
rows_split h zero = refl
rows_split h (suc n) =
    let more : suc n * CHANNELS ≡ n * CHANNELS + CHANNELS = omega arith in
    let one : suc n ≡ n + 1 = omega arith in
    omega (
      arith,
      ap (λ k. sum_by h (range_with_len 0 k)) more,
      ap (λ k. sum_by (λ l. sum_by (λ c. h (l * CHANNELS + c)) channels) (range_with_len 0 k)) one,
      sum_by_range_more (λ l. sum_by (λ c. h (l * CHANNELS + c)) channels) 0 n n (omega arith),
      range_split h (n * CHANNELS) CHANNELS,
      rows_split h n,
    )

-- ---- each arc

-- one of three arcs with a capacity has one
of_three : (p q : Bool) (a b c : Arc) → is_some a.capacity ≡ true → is_some b.capacity ≡ true
    → is_some c.capacity ≡ true → is_some (cond p a (cond q b c)).capacity ≡ true
of_three true q a b c of_a of_b of_c = of_a
of_three false true a b c of_a of_b of_c = of_b
of_three false false a b c of_a of_b of_c = of_c

module _ (links : List Link) (x : List ℕ) where
  -- those to links
  pub limit_arc_at : (l c : ℕ) → l < length links → c < CHANNELS → arc_of links x (l * CHANNELS + c)
      ≡ limit_arc links l c
  unfolding arc_of
  limit_arc_at l c within below =
      let k = l * CHANNELS + c in
      let row : k / CHANNELS ≡ l = omega arith in
      let column : k % CHANNELS ≡ c = omega arith in
      cond-true {A = Arc} (ltb k (shares links)) (limit_arc links (k / CHANNELS) (k % CHANNELS)) _
      (lt-ltb k (shares links) (omega arith))
      ∙ ap (λ r. limit_arc links r (k % CHANNELS)) row ∙ ap (limit_arc links l) column

  -- those to channels
  pub amount_arc_at : (c : ℕ) → c < CHANNELS → arc_of links x (shares links + c) ≡ amount_arc links x c
  unfolding arc_of
  amount_arc_at c below =
      let k = shares links + c in
      let place : k - shares links ≡ c = omega arith in
      cond-false {A = Arc} (ltb k (shares links)) _ _ (le-ltb k (shares links) (omega arith))
      ∙ cond-true {A = Arc} (ltb k (shares links + CHANNELS)) (amount_arc links x (k - shares links)) _
      (lt-ltb k (shares links + CHANNELS) (omega arith))
      ∙ ap (amount_arc links x) place

  -- those to the sink
  pub window_arc_at : (l : ℕ) → arc_of links x (shares links + CHANNELS + l) ≡ window_arc links l
  unfolding arc_of
  window_arc_at l =
      let k = shares links + CHANNELS + l in
      let place : k - shares links - CHANNELS ≡ l = omega arith in
      cond-false {A = Arc} (ltb k (shares links)) _ _ (le-ltb k (shares links) (omega arith))
      ∙ cond-false {A = Arc} (ltb k (shares links + CHANNELS)) _ _ (le-ltb k (shares links + CHANNELS) (omega arith))
      ∙ ap (window_arc links) place

  -- each has a capacity
  pub limited : (k : ℕ) → is_some (arc_of links x k).capacity ≡ true
  unfolding arc_of
  limited k = of_three (ltb k (shares links)) (ltb k (shares links + CHANNELS)) _ _ _ refl refl refl

-- ---- sums

-- a sum over all arcs is the sum over those to links, to channels and to the sink
pub by_kind : (links : List Link) (x : List ℕ) (g : Graph) → IsBuilt links x g (arc_count links) → (F : ℕ → Arc → ℕ)
    → sum_by (λ k. F k (arc g k)) (places g)
    ≡ sum_by (λ l. sum_by (λ c. F (l * CHANNELS + c) (limit_arc links l c)) channels) (numbers links)
    + sum_by (λ c. F (shares links + c) (amount_arc links x c)) channels
    + sum_by (λ l. F (shares links + CHANNELS + l) (window_arc links l)) (numbers links)
by_kind links x g built F =
    let h : ℕ → ℕ = λ k. F k (arc g k) in
    let n = length links in
    let is : (k : ℕ) (a : Arc) → k < arc_count links → arc_of links x k ≡ a → h k ≡ F k a =
    λ k a within same. ap (F k) (built.each k within ∙ same) in
    omega (
      arith,
      ap (λ m. sum_by h (range_with_len 0 m)) built.arcs,
      range_split h (shares links + CHANNELS) n,
      range_split h (shares links) CHANNELS,
      rows_split h n,
      sum_by_range_same (λ l. sum_by (λ c. h (l * CHANNELS + c)) channels)
          (λ l. sum_by (λ c. F (l * CHANNELS + c) (limit_arc links l c)) channels) 0 n
          (λ l _ within. sum_by_range_same (λ c. h (l * CHANNELS + c))
          (λ c. F (l * CHANNELS + c) (limit_arc links l c)) 0 CHANNELS
          (λ c _ below. is (l * CHANNELS + c) (limit_arc links l c) (omega arith)
          (limit_arc_at links x l c (omega arith) (omega arith)))),
      sum_by_range_same (λ c. h (shares links + c)) (λ c. F (shares links + c) (amount_arc links x c)) 0 CHANNELS
          (λ c _ below. is (shares links + c) (amount_arc links x c) (omega arith)
          (amount_arc_at links x c (omega arith))),
      sum_by_range_same (λ l. h (shares links + CHANNELS + l))
          (λ l. F (shares links + CHANNELS + l) (window_arc links l)) 0 n
          (λ l _ within. is (shares links + CHANNELS + l) (window_arc links l) (omega arith) (window_arc_at links x l)),
    )
