-- A solver at work, from its first search to its last.
use Rattle.std.proofs.Common.{◌≡◌, ℕ, ◌≤◌, List, slice_index, sym, ap, ◌∙◌, subst, arith}
use Rattle.mm_flow.specs.declared.limits.TheConstants.{MAX_VALUE}
use Rattle.mm_flow.specs.declared.search.Search.{Search}
use Rattle.mm_flow.specs.declared.tables.Tables.{Tables}
use Rattle.mm_flow.specs.Graph.{Graph, arc}
use Rattle.mm_flow.specs.Balance.{IsAugmented, IsBounded}
use Rattle.mm_flow.specs.Levels.{IsLevelled}
use Rattle.mm_flow.specs.Marks.{Fits}
use Rattle.mm_flow.specs.Tables.{IsAtWork}
use Rattle.mm_flow.specs.Task.{SameTask}
use Rattle.mm_flow.proofs.Augmenting.{augmented_small, arcs_small}

module _ {g : Graph} {sink : ℕ} {search : Search} {flow : List ℕ} {value : ℕ}
    (work : IsAtWork g sink search flow value) where
  -- the value is bounded
  pub value_small : value ≤ MAX_VALUE
  value_small = augmented_small g search.source sink (slice_index flow) value work.ends work.bounded work.augmented

  -- no arc carries more than the bound
  pub flow_small : (k : ℕ) → slice_index flow k ≤ MAX_VALUE
  flow_small = arcs_small g search.source sink (slice_index flow) value work.ends work.bounded work.augmented

  -- the marks change
  pub work_marked : (next : Search) → next.source ≡ search.source → Fits g next
      → IsLevelled g next.source next.marks.items → IsAtWork g sink next flow value
  work_marked next same fits levelled = record {
    ends = omega (arith, same, work.ends);
    sink_known = work.sink_known;
    fits = fits;
    levelled = levelled;
    bounded = subst (λ (s : ℕ). IsBounded g s sink) (sym same) work.bounded;
    augmented = subst (λ (s : ℕ). IsAugmented g s sink (slice_index flow) value) (sym same) work.augmented;
  }

  -- more flows
  pub work_more : (new : List ℕ) (more : ℕ) → IsAugmented g search.source sink (slice_index new) more
      → IsAtWork g sink search new more
  work_more new more augmented = record {
    ends = work.ends;
    sink_known = work.sink_known;
    fits = work.fits;
    levelled = work.levelled;
    bounded = work.bounded;
    augmented = augmented;
  }

-- the value that tables have is bounded
pub value_bound : (t : Tables) → t.value ≤ MAX_VALUE
value_bound t = value_small t.at_work

-- a task that stays the same twice stays the same
pub same_further : (first then last : Tables) → SameTask first then → SameTask then last → SameTask first last
same_further first then last one two = record {
  graph = two.graph ∙ one.graph;
  source = two.source ∙ one.source;
  sink = two.sink ∙ one.sink;
  kept = λ k leaves.
      let leaves_then = ap (λ (g : Graph). (arc g k).from) one.graph ∙ leaves ∙ sym one.source in
      omega (arith, one.kept k leaves, two.kept k leaves_then);
}
