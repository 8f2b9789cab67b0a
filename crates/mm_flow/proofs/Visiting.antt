-- A search continues from node to node, and ends.
use Rattle.std.proofs.Common.{◌≡◌, ℕ, ◌+◌, ◌<◌, List, length, slice_index, ap, sym, ◌∙◌, refl, arith, inl, inr}
use Rattle.std.proofs.lemmas.Bool.{cases_eq, cases_lt}
use Rattle.std.proofs.lemmas.List.{get_or_past}
use Rattle.mm_flow.specs.declared.search.Mark.{Mark}
use Rattle.mm_flow.specs.declared.search.Search.{Search}
use Rattle.mm_flow.specs.Graph.{Graph}
use Rattle.mm_flow.specs.Flow.{Flow}
use Rattle.mm_flow.specs.Marks.{no_mark, HasMark, IsClosed, IsSearch, GoesOn}

-- a node with a mark is in the table
pub marked_lt : (marks : List Mark) (n : ℕ) → HasMark marks n → n < length marks
marked_lt marks n has = elim (cases_lt n (length marks)) [
  | inl lt ↦ lt
  | inr up ↦ absurd (omega (arith, ap (λ (m : Mark). m.level) (get_or_past marks n no_mark up)))
]

-- a step that changes nothing continues a search
pub goes_on_same : (s : Search) → GoesOn s s
goes_on_same s = record {
  source = refl;
  least = refl;
  done = refl;
  found = omega arith;
  order = λ i lt. refl;
  marked = λ n has. has;
}

-- two steps that continue a search
pub goes_on_further : (first then last : Search) → GoesOn first then → GoesOn then last → GoesOn first last
goes_on_further first then last one two = record {
  source = two.source ∙ one.source;
  least = two.least ∙ one.least;
  done = two.done ∙ one.done;
  found = omega (arith, one.found, two.found);
  order = λ i lt. two.order i (omega (arith, one.found)) ∙ one.order i lt;
  marked = λ n has. two.marked n (one.marked n has);
}

-- the first node that waits is closed, and the others wait on
pub search_next : (g : Graph) (f : Flow) (source least : ℕ) (marks : List Mark) (order : List ℕ) (found done node : ℕ)
    → IsSearch g f source least marks order found done → done < found → slice_index order done ≡ node
    → IsClosed g f marks least node
    → IsSearch g f source least marks order found (done + 1)
search_next g f source least marks order found done node search ahead here closed = record {
  marking = search.marking;
  order_size = search.order_size;
  count = search.count;
  ahead = omega arith;
  levels = search.levels;
  queued = search.queued;
  swept = λ n has. elim (search.swept n has) [
    | inl all ↦ inl all
    | inr waits ↦ elim (cases_eq waits.0 done) [
      | inl first ↦
          let same : n ≡ node = sym waits.3 ∙ ap (slice_index order) first ∙ here in
          inl (λ e lt at. closed e lt (at ∙ same))
      | inr other ↦ inr (waits.0, omega (arith, waits.1), waits.2, waits.3)
    ]
  ];
}
