-- The marks of a breadth-first search: Edmonds and Karp, "Theoretical improvements in algorithmic efficiency for
-- network flow problems", 1972.
use Rattle.std.specs.Prelude.{◌≡◌, ◌≢◌, ℕ, ◌+◌, ◌<◌, ◌≤◌, ◌==◌, ◌⊎◌, List, length, slice_index, slice_index_or}
use Rattle.std.specs.Prelude.{count_by}
use Rattle.mm_flow.specs.declared.search.Mark.{Mark}
use Rattle.mm_flow.specs.declared.search.Search.{Search}
use Rattle.mm_flow.specs.declared.residual.Residual.{Residual}
use Rattle.mm_flow.specs.Graph.{Graph}
use Rattle.mm_flow.specs.Flow.{Flow}
use Rattle.mm_flow.specs.Residual.{entries, tail, head, residual}

-- the mark of a node that is not reached
abbrev pub no_mark : Mark
no_mark = record { level = 0; via = 0 }

-- the mark of a node
abbrev pub mark : List Mark → ℕ → Mark
mark marks n = slice_index_or marks n no_mark

-- the number of entries on the path from the source to a node, and 1; 0 if the node is not reached
abbrev pub level : List Mark → ℕ → ℕ
level marks n = (mark marks n).level

-- a node is reached
abbrev pub HasMark : List Mark → ℕ → Type 0
HasMark marks n = 0 < level marks n

-- the number of nodes that are not reached
abbrev pub unmarked : List Mark → ℕ
unmarked marks = count_by (λ (m : Mark). m.level == 0) marks

-- a node was reached from a node of a lower level, by an entry with at least a residual capacity
pub record IsReachedFrom (g : Graph) (f : Flow) (amount : ℕ) (before own : Mark) (n : ℕ) : Type 0 where
  pub known : own.via < entries g
  pub leads : head g own.via ≡ n
  pub reached : 0 < before.level
  pub above : before.level < own.level
  pub fits : amount ≤ residual g f own.via

-- the same, for given marks of all nodes
abbrev pub IsReached : Graph → Flow → List Mark → ℕ → ℕ → Type 0
IsReached g f marks amount n = IsReachedFrom g f amount (mark marks (tail g (mark marks n).via)) (mark marks n) n

-- each marked node is the source or was reached by an entry with at least this residual capacity
pub record IsMarking (g : Graph) (f : Flow) (source least : ℕ) (marks : List Mark) : Type 0 where
  pub size : length marks ≡ g.nodes
  pub start : HasMark marks source
  pub reached : (n : ℕ) → n ≢ source → HasMark marks n → IsReached g f marks least n

-- each entry that leaves a node with at least this residual capacity leads to a marked node
abbrev pub IsClosed : Graph → Flow → List Mark → ℕ → ℕ → Type 0
IsClosed g f marks least n = (e : ℕ) → e < entries g → tail g e ≡ n → least ≤ residual g f e → HasMark marks (head g e)

-- the marks of a search that has ended: no other node can be reached
pub record IsSearched (g : Graph) (f : Flow) (source least : ℕ) (marks : List Mark) : Type 0 where
  pub marking : IsMarking g f source least marks
  pub closed : (n : ℕ) → HasMark marks n → IsClosed g f marks least n

-- a node is still to be visited: it stands in the order of reaching from `done` on and before `found`
abbrev pub Waits : List ℕ → ℕ → ℕ → ℕ → Type 0
Waits order done found n = (i : ℕ) × (done ≤ i) × (i < found) × (slice_index order i ≡ n)

-- a search in progress: the nodes found so far are marked, and those before `done` in their order are closed
pub record IsSearch (g : Graph) (f : Flow) (source least : ℕ) (marks : List Mark) (order : List ℕ)
    (found done : ℕ) : Type 0 where
  pub marking : IsMarking g f source least marks
  pub order_size : length order ≡ g.nodes
  pub count : found + unmarked marks ≡ g.nodes
  pub ahead : done ≤ found
  pub levels : (n : ℕ) → level marks n ≤ found
  pub queued : (i : ℕ) → i < found → HasMark marks (slice_index order i)
  pub swept : (n : ℕ) → HasMark marks n → IsClosed g f marks least n ⊎ Waits order done found n

-- the same for a `Search` of a residual network
abbrev pub IsSearching : Residual → Search → Type 0
IsSearching r s = IsSearch r.network.now.graph (slice_index r.flow.items) s.source s.least s.marks.items s.order.items
    s.found s.done

-- each marked node is the source or was reached by a search, along entries of at least this residual capacity
abbrev pub HasMarked : Residual → Search → ℕ → Type 0
HasMarked r s least = IsMarking r.network.now.graph (slice_index r.flow.items) s.source least s.marks.items

-- a search has marked all that its source reaches along entries of at least this residual capacity
abbrev pub HasSearched : Residual → Search → ℕ → Type 0
HasSearched r s least = IsSearched r.network.now.graph (slice_index r.flow.items) s.source least s.marks.items

-- the source of a search is in the network, and there is room for all nodes
pub record Fits (g : Graph) (s : Search) : Type 0 where
  pub source : s.source < g.nodes
  pub marks : length s.marks.items ≡ g.nodes
  pub order : length s.order.items ≡ g.nodes

-- a later state of a search: marked nodes stay marked, and the order of reaching grows at its end
pub record GoesOn (old new : Search) : Type 0 where
  pub source : new.source ≡ old.source
  pub least : new.least ≡ old.least
  pub done : new.done ≡ old.done
  pub found : old.found ≤ new.found
  pub order : (i : ℕ) → i < old.found → slice_index new.order.items i ≡ slice_index old.order.items i
  pub marked : (n : ℕ) → HasMark old.marks.items n → HasMark new.marks.items n
