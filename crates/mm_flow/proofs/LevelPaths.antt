-- Paths of a level graph.
use Rattle.std.proofs.Common.{◌≡◌, ◌≢◌, ℕ, zero, suc, ◌+◌, ◌<◌, ◌≤◌, List, slice_index, slice_set, ap, sym, arith, inl}
use Rattle.std.proofs.Common.{inr, subst}
use Rattle.std.proofs.lemmas.Bool.{cases_eq}
use Rattle.std.proofs.lemmas.List.{get_or-set_same, get_or-set_other, length-set}
use Rattle.std.specs.List.{sum_by}
use Rattle.std.proofs.lemmas.List.Sums.{sum_by-set}
use Rattle.mm_flow.specs.declared.search.Mark.{Mark}
use Rattle.mm_flow.specs.Graph.{Graph}
use Rattle.mm_flow.specs.Flow.{Flow}
use Rattle.mm_flow.specs.Residual.{tail, residual}
use Rattle.mm_flow.specs.Links.{degree}
use Rattle.mm_flow.specs.Marks.{no_mark, mark, level, HasMark, IsReached, IsMarking}
use Rattle.mm_flow.specs.Levels.{IsPath, HasPath, IsLevelled, IsCursors}

-- the marks of a search hold all through the phase that follows
pub marking_levelled : {g : Graph} {f : Flow} {source least : ℕ} {marks : List Mark} → IsMarking g f source least marks
    → IsLevelled g source marks
marking_levelled marking = record { size = marking.size; start = marking.start }

-- a node is marked anew
pub levelled_set : {g : Graph} {source : ℕ} {marks : List Mark} (n : ℕ) (own : Mark) → IsLevelled g source marks
    → n < g.nodes → 0 < own.level → IsLevelled g source (slice_set marks n own)
levelled_set {g} {source} {marks} n own levelled known some = record {
  size = omega (arith, length-set marks n own, levelled.size);
  start = elim (cases_eq source n) [
    | inl same ↦
        let set = ap (λ (m : Mark). m.level) (get_or-set_same marks n own no_mark (omega (arith, levelled.size))) in
        omega (arith, set, some, ap (level (slice_set marks n own)) same)
    | inr ne ↦ omega (
      arith,
      ap (λ (m : Mark). m.level) (get_or-set_other marks n source own no_mark ne),
      levelled.start,
    )
  ];
}

module _ {g : Graph} {f : Flow} {source least : ℕ} {marks : List Mark}
    (marking : IsMarking g f source least marks) where
  -- a path leads to each node that a search marked up to a level
  tree_path : (d n : ℕ) → level marks n ≤ d → HasMark marks n → HasPath g f marks source least n
  tree_path zero n small has = absurd (omega arith)
  tree_path (suc d) n small has = elim (cases_eq n source) [
    | inl same ↦ (0, same)
    | inr ne ↦
        let reached = marking.reached n ne has in
        let before = tree_path d (tail g (mark marks n).via) (omega (arith, reached.above)) reached.reached in
        (suc before.0, (reached, before.1))
  ]

  -- a path leads to each node that a search marked
  pub marked_path : (n : ℕ) → HasMark marks n → HasPath g f marks source least n
  marked_path n has = tree_path (level marks n) n (omega arith) has

-- the last node of a path is marked
pub path_marked : (g : Graph) (f : Flow) (marks : List Mark) (source amount n : ℕ) → HasMark marks source
    → HasPath g f marks source amount n → HasMark marks n
path_marked g f marks source amount n start (zero, path) = omega (arith, start, ap (level marks) path)
path_marked g f marks source amount n start (suc steps, path) = omega (arith, path.0.above)

-- a path to another node than the source has a last entry, and leads to the node that this leaves
pub path_back : (g : Graph) (f : Flow) (marks : List Mark) (source amount n : ℕ) → n ≢ source
    → HasPath g f marks source amount n → IsReached g f marks amount n
    × HasPath g f marks source amount (tail g (mark marks n).via)
path_back g f marks source amount n ne (zero, path) = absurd (ne path)
path_back g f marks source amount n ne (suc steps, path) = (path.0, (steps, path.1))

-- a path that can carry an amount is extended by an entry that can carry it
pub path_on : (g : Graph) (f : Flow) (marks : List Mark) (source least amount n : ℕ) → IsReached g f marks least n
    → amount ≤ residual g f (mark marks n).via → HasPath g f marks source amount (tail g (mark marks n).via)
    → HasPath g f marks source amount n
path_on g f marks source least amount n reached fits path = (
  suc path.0,
  (
    record {
      known = reached.known;
      leads = reached.leads;
      reached = reached.reached;
      above = reached.above;
      fits = fits;
    },
    path.1,
  ),
)

-- a path depends on the marks up to its last node's level
path_kept : (g : Graph) (f : Flow) (marks marked : List Mark) (source amount steps n : ℕ)
    → ((m : ℕ) → level marks m ≤ level marks n → mark marked m ≡ mark marks m) → IsPath g f marks source amount steps n
    → IsPath g f marked source amount steps n
path_kept g f marks marked source amount zero n same path = path
path_kept g f marks marked source amount (suc steps) n same path =
    let before = tail g (mark marks n).via in
    let below : level marks before < level marks n = path.0.above in
    let rest = path_kept g f marks marked source amount steps before (λ m up. same m (omega arith)) path.1 in
    rw (same n (omega arith), same before (omega arith)) (path.0, rest)

-- a node of a higher level is reached along an entry of the last node of a path, and the path leads on to it
pub path_taken : (g : Graph) (f : Flow) (marks marked : List Mark) (source amount e to : ℕ)
    → level marks (tail g e) < level marks to → IsReached g f marked amount to → (mark marked to).via ≡ e
    → ((n : ℕ) → n ≢ to → mark marked n ≡ mark marks n) → HasPath g f marks source amount (tail g e)
    → HasPath g f marked source amount to
path_taken g f marks marked source amount e to below reached by others path =
    let kept = path_kept g f marks marked source amount path.0 (tail g e)
    (λ m up. others m (λ same. absurd (omega (arith, ap (level marks) same)))) path.1 in
    (suc path.0, (reached, subst (λ (n : ℕ). IsPath g f marked source amount path.0 n) (sym (ap (tail g) by)) kept))

-- a cursor is put at some of the entries of its node
pub cursors_put : (g : Graph) (next : List ℕ) (at cursor : ℕ) → IsCursors g next → at < g.nodes → cursor ≤ degree g at
    → IsCursors g (slice_set next at cursor)
cursors_put g next at cursor cursors within own = record {
  size = omega (arith, length-set next at cursor, cursors.size);
  own = λ n. elim (cases_eq n at) [
    | inl same ↦
        let set = get_or-set_same next at cursor 0 (omega (arith, cursors.size)) in
        omega (arith, set, own, ap (slice_index (slice_set next at cursor)) same, ap (degree g) same)
    | inr ne ↦ omega (arith, get_or-set_other next at n cursor 0 ne, cursors.own n)
  ];
}

-- the cursors add up to as much less or more as one of them is
pub cursors_sum : (g : Graph) (next : List ℕ) (at cursor : ℕ) → IsCursors g next → at < g.nodes
    → sum_by (λ (c : ℕ). c) (slice_set next at cursor) + slice_index next at ≡ sum_by (λ (c : ℕ). c) next + cursor
cursors_sum g next at cursor cursors within = sum_by-set (λ (c : ℕ). c) next at cursor 0 (omega (arith, cursors.size))
