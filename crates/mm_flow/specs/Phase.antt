-- Paths that a phase finds backwards from the sink.
use Rattle.std.specs.Prelude.{◌≡◌, ℕ, ◌<◌, slice_index, sum_by}
use Rattle.mm_flow.specs.declared.phase.Phase.{Phase}
use Rattle.mm_flow.specs.Residual.{entries, tail, twin}
use Rattle.mm_flow.specs.Levels.{HasLead}
use Rattle.mm_flow.specs.Task.{IsOpen}

-- an entry leaves a node, and a path can reach the node by the entry's twin
pub record LeadsUp (p : Phase) (at e : ℕ) : Type 0 where
  pub known : e < entries p.tables.residual.network.now.graph
  pub leaves : tail p.tables.residual.network.now.graph e ≡ at
  pub back : IsOpen p.tables (twin p.tables.residual.network.now.graph e)

-- a path leads up from a node to the sink
abbrev pub LeadsFrom : Phase → ℕ → Type 0
LeadsFrom p n = HasLead p.tables.residual.network.now.graph (slice_index p.tables.residual.flow.items)
    p.tables.search.marks.items p.next.items p.ahead.items p.tables.sink n

-- the sum of the cursors of all nodes
abbrev pub cursors_of : Phase → ℕ
cursors_of p = sum_by (λ (c : ℕ). c) p.next.items
