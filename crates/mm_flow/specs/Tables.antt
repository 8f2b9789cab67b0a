-- The tables of a solver between augmentations, and after the last.
use Rattle.std.specs.Prelude.{◌≢◌, ℕ, ◌<◌, List, slice_index}
use Rattle.mm_flow.specs.declared.search.Search.{Search}
use Rattle.mm_flow.specs.Graph.{Graph}
use Rattle.mm_flow.specs.Balance.{IsAugmented, IsBounded}
use Rattle.mm_flow.specs.Marks.{Fits}
use Rattle.mm_flow.specs.Levels.{IsLevelled}

-- the augmentations so far made a flow of this value
pub record IsAtWork (g : Graph) (sink : ℕ) (search : Search) (flow : List ℕ) (value : ℕ) : Type 0 where
  pub ends : search.source ≢ sink
  pub sink_known : sink < g.nodes
  pub fits : Fits g search
  pub levelled : IsLevelled g search.source search.marks.items
  pub bounded : IsBounded g search.source sink
  pub augmented : IsAugmented g search.source sink (slice_index flow) value
