-- One more node is marked, and a search that begins.
use Rattle.std.proofs.Common.{◌≡◌, ◌≢◌, ℕ, ◌+◌, ◌<◌, ◌≤◌, cond, eqb, List, length, slice_index, slice_set, replicate}
use Rattle.std.proofs.Common.{ap, sym, ◌∙◌, arith, inl, inr, subst}
use Rattle.std.proofs.lemmas.Bool.{cases_eq, cases_lt, cond-true, cond-false, eq-eqb, ne_eqb}
use Rattle.std.proofs.lemmas.List.{get_or-set_same, get_or-set_other, length-set, get_or-replicate, get_or_past}
use Rattle.std.proofs.lemmas.List.{length-replicate}
use Rattle.std.proofs.lemmas.List.Sums.{sum_by-set, get_or-le-sum_by}
use Rattle.std.proofs.lemmas.List.Folds.{sum_by-replicate}
use Rattle.mm_flow.specs.declared.search.Mark.{Mark}
use Rattle.mm_flow.specs.Graph.{Graph}
use Rattle.mm_flow.specs.Flow.{Flow}
use Rattle.mm_flow.specs.Residual.{entries, tail, head, residual}
use Rattle.mm_flow.specs.Marks.{no_mark, mark, level, HasMark, IsReachedFrom, IsReached, IsSearch}

-- 1 for a node that is not reached
none_at : Mark → ℕ
none_at m = cond (eqb m.level 0) 1 0

-- a node was reached, where its mark and that of the node before it are known
pub IsReached-from : (g : Graph) (f : Flow) (marks : List Mark) (amount n : ℕ) (before own : Mark) → mark marks n ≡ own
    → mark marks (tail g own.via) ≡ before → IsReachedFrom g f amount before own n → IsReached g f marks amount n
IsReached-from g f marks amount n before own own_is before_is reached =
    let own_known : IsReachedFrom g f amount (mark marks (tail g own.via)) own n =
    subst (λ (b : Mark). IsReachedFrom g f amount b own n) (sym before_is) reached in
    subst (λ (m : Mark). IsReachedFrom g f amount (mark marks (tail g m.via)) m n) (sym own_is) own_known

-- a node that an entry leads to is marked
pub search_more : (g : Graph) (f : Flow) (source least : ℕ) (marks : List Mark) (order : List ℕ)
    (found done e node from : ℕ) (own : Mark)
    → IsSearch g f source least marks order found done
    → e < entries g → node ≡ head g e → from ≡ tail g e → node < g.nodes
    → HasMark marks from → level marks node ≡ 0
    → own.via ≡ e → own.level ≡ level marks from + 1 → least ≤ residual g f e
    → IsSearch g f source least (slice_set marks node own) (slice_set order found node) (found + 1) done
unfolding none_at
search_more g f source least marks order found done e node from own search known leads leaves node_known reached fresh
    via next fits =
    let after = slice_set marks node own in
    let behind = slice_set order found node in
    let node_lt : node < length marks = omega (arith, search.marking.size) in
    let own_at : mark after node ≡ own = get_or-set_same marks node own no_mark node_lt in
    let other_at : (n : ℕ) → n ≢ node → mark after n ≡ mark marks n =
    λ n ne. get_or-set_other marks node n own no_mark ne in
    let own_level = ap (λ (m : Mark). m.level) own_at in
    let stays : (n : ℕ) → HasMark marks n → mark after n ≡ mark marks n =
    λ n has. other_at n (λ same. absurd (omega (arith, ap (level marks) same))) in
    let still : (n : ℕ) → HasMark marks n → HasMark after n =
    λ n has. omega (arith, ap (λ (m : Mark). m.level) (stays n has)) in
    let none_here : none_at (mark marks node) ≡ 1 =
    cond-true {A = ℕ} (eqb (level marks node) 0) 1 0 (eq-eqb (level marks node) 0 fresh) in
    let some_there : none_at own ≡ 0 = cond-false {A = ℕ} (eqb own.level 0) 1 0
    (ne_eqb own.level 0 (λ zero_level. absurd (omega arith))) in
    let fewer = sum_by-set none_at marks node own no_mark node_lt in
    let some_left = get_or-le-sum_by none_at marks node no_mark node_lt in
    let found_lt : found < length order = omega (arith, search.order_size, search.count, some_left, none_here) in
    let here : slice_index behind found ≡ node = get_or-set_same order found node 0 found_lt in
    let there : (i : ℕ) → i < found → slice_index behind i ≡ slice_index order i =
    λ i lt. get_or-set_other order found i node 0 (λ same. absurd (omega arith)) in
    record {
      marking = record {
        size = omega (arith, length-set marks node own, search.marking.size);
        start = still source search.marking.start;
        reached = λ n ne has. elim (cases_eq n node) [
          | inl same ↦
              let tail_is : tail g own.via ≡ from = ap (tail g) via ∙ sym leaves in
              let tail_at : mark after (tail g own.via) ≡ mark marks from = ap (mark after) tail_is
              ∙ stays from reached in
              let own_is : mark after n ≡ own = ap (mark after) same ∙ own_at in
              IsReached-from g f after least n (mark marks from) own own_is tail_at (record {
                known = omega arith;
                leads = ap (head g) via ∙ sym leads ∙ sym same;
                reached = reached;
                above = omega arith;
                fits = omega (arith, ap (residual g f) via);
              })
          | inr other ↦
              let had : HasMark marks n = omega (arith, ap (λ (m : Mark). m.level) (other_at n other)) in
              let old = search.marking.reached n ne had in
              IsReached-from g f after least n (mark marks (tail g (mark marks n).via)) (mark marks n) (stays n had)
              (stays (tail g (mark marks n).via) old.reached) old
        ];
      };
      order_size = omega (arith, length-set order found node, search.order_size);
      count = omega (arith, search.count, fewer, none_here, some_there);
      ahead = omega (arith, search.ahead);
      levels = λ n. elim (cases_eq n node) [
        | inl same ↦ omega (arith, ap (level after) same, own_level, search.levels from)
        | inr other ↦ omega (arith, ap (λ (m : Mark). m.level) (other_at n other), search.levels n)
      ];
      queued = λ i lt. elim (cases_lt i found) [
        | inl less ↦ omega (arith, ap (level after) (there i less), still (slice_index order i) (search.queued i less))
        | inr up ↦
            let at : i ≡ found = omega arith in
            omega (arith, ap (λ (j : ℕ). level after (slice_index behind j)) at, ap (level after) here, own_level)
      ];
      swept = λ n has. elim (cases_eq n node) [
        | inl same ↦ inr (found, search.ahead, omega arith, here ∙ sym same)
        | inr other ↦
            let had : HasMark marks n = omega (arith, ap (λ (m : Mark). m.level) (other_at n other)) in
            elim (search.swept n had) [
              | inl closed ↦ inl (λ d lt at fits. still (head g d) (closed d lt at fits))
              | inr waits ↦ inr (waits.0, waits.1, omega (arith, waits.2), there waits.0 waits.2 ∙ waits.3)
            ]
      ];
    }

-- no node is marked
mark-replicate : (nodes n : ℕ) → mark (replicate nodes no_mark) n ≡ no_mark
mark-replicate nodes n = elim (cases_lt n nodes) [
  | inl lt ↦ get_or-replicate nodes n no_mark no_mark lt
  | inr up ↦ get_or_past (replicate nodes no_mark) n no_mark (omega (arith, length-replicate nodes no_mark))
]

-- the source alone is marked
pub search_begun : (g : Graph) (f : Flow) (source least : ℕ) (order : List ℕ) (start : Mark) → source < g.nodes
    → length order ≡ g.nodes → start.level ≡ 1
    → IsSearch g f source least (slice_set (replicate g.nodes no_mark) source start) (slice_set order 0 source) 1 0
unfolding none_at
search_begun g f source least order start known size first =
    let none = replicate g.nodes no_mark in
    let marks = slice_set none source start in
    let source_lt : source < length none = omega (arith, length-replicate g.nodes no_mark) in
    let own_at : mark marks source ≡ start = get_or-set_same none source start no_mark source_lt in
    let other_at : (n : ℕ) → n ≢ source → mark marks n ≡ no_mark =
    λ n ne. get_or-set_other none source n start no_mark ne ∙ mark-replicate g.nodes n in
    let own_level = ap (λ (m : Mark). m.level) own_at in
    let is_source : (n : ℕ) → HasMark marks n → n ≡ source =
    λ n has. elim (cases_eq n source) [
      | inl same ↦ same
      | inr ne ↦ absurd
          (omega (arith, ap (λ (m : Mark). m.level) (other_at n ne)))
    ] in
    let some_there : none_at start ≡ 0 = cond-false {A = ℕ} (eqb start.level 0) 1 0
    (ne_eqb start.level 0 (λ zero_level. absurd (omega arith))) in
    let here : slice_index (slice_set order 0 source) 0 ≡ source = get_or-set_same order 0 source 0 (omega arith) in
    record {
      marking = record {
        size = omega (arith, length-set none source start, length-replicate g.nodes no_mark);
        start = omega arith;
        reached = λ n ne has. absurd (ne (is_source n has));
      };
      order_size = omega (arith, length-set order 0 source);
      count = omega (
        arith,
        sum_by-set none_at none source start no_mark source_lt,
        sum_by-replicate none_at g.nodes no_mark,
        ap none_at (mark-replicate g.nodes source),
        some_there,
      );
      ahead = omega arith;
      levels = λ n. elim (cases_eq n source) [
        | inl same ↦ omega (arith, ap (level marks) same, own_level)
        | inr ne ↦ omega (arith, ap (λ (m : Mark). m.level) (other_at n ne))
      ];
      queued = λ i lt.
          let at : i ≡ 0 = omega arith in
          omega (
            arith,
            ap (λ (j : ℕ). level marks (slice_index (slice_set order 0 source) j)) at,
            ap (level marks) here,
            own_level,
          );
      swept = λ n has. inr (0, omega arith, omega arith, here ∙ sym (is_source n has));
    }

-- nothing is read from a table of nothing
pub slice_index-nothing : (size k : ℕ) → slice_index (replicate size 0) k ≡ 0
slice_index-nothing size k = elim (cases_lt k size) [
  | inl lt ↦ get_or-replicate size k 0 0 lt
  | inr up ↦ get_or_past (replicate size 0) k 0 (omega (arith, length-replicate {A = ℕ} size 0))
]
