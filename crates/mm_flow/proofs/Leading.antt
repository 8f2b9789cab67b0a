-- Paths that lead up to the sink.
use Rattle.std.proofs.Common.{◌≡◌, ◌≢◌, ℕ, zero, suc, ◌+◌, ◌*◌, ◌<◌, ◌≤◌, List, get_or, mul_comm, slice_index}
use Rattle.std.proofs.Common.{slice_set, length, ap, sym, refl, subst, arith}
use Rattle.std.proofs.lemmas.List.{get_or-set_same, get_or-set_other, get_or_read}
use Rattle.std.proofs.lemmas.Nat.{mul-add-lt}
use Rattle.mm_flow.specs.declared.search.Mark.{Mark}
use Rattle.mm_flow.specs.declared.tables.Tables.{Tables}
use Rattle.mm_flow.specs.declared.phase.Phase.{Phase}
use Rattle.mm_flow.specs.Graph.{Graph}
use Rattle.mm_flow.specs.Flow.{Flow}
use Rattle.mm_flow.specs.Residual.{tail, head}
use Rattle.mm_flow.specs.Marks.{level, HasMark}
use Rattle.mm_flow.specs.Levels.{IsUp, IsAhead, IsLead, HasLead}
use Rattle.mm_flow.specs.Task.{SameTask}
use Rattle.mm_flow.specs.Phase.{LeadsFrom}
use Rattle.mm_flow.proofs.Visiting.{marked_lt}

module _ (g : Graph) (f : Flow) (sink : ℕ) where
  -- an entry leads up by any marks with the same levels
  up_kept : (marks marked : List Mark) (e : ℕ) → ((m : ℕ) → level marked m ≡ level marks m) → IsUp g f marks e
      → IsUp g f marked e
  up_kept marks marked e levels up = record {
    known = up.known;
    marked = omega (arith, up.marked, levels (tail g e));
    up = omega (arith, up.up, levels (tail g e), levels (head g e));
    open_still = up.open_still;
  }

  -- a way up to the sink depends on the entries ahead from its first node's level on, and on the cursors above that
  lead_kept : (marks marked : List Mark) (next moved ahead turned : List ℕ) (steps n : ℕ)
      → ((m : ℕ) → level marked m ≡ level marks m)
      → ((m : ℕ) → level marks n < level marks m → slice_index moved m ≡ slice_index next m)
      → ((m : ℕ) → level marks n ≤ level marks m → slice_index turned m ≡ slice_index ahead m)
      → IsLead g f marks next ahead sink steps n → IsLead g f marked moved turned sink steps n
  lead_kept marks marked next moved ahead turned zero n levels same_cursors same_ahead lead = lead
  lead_kept marks marked next moved ahead turned (suc steps) n levels same_cursors same_ahead lead =
      let e = slice_index ahead n in
      let to = head g e in
      let above : level marks n < level marks to = omega (arith, lead.0.up.up, ap (level marks) lead.0.leaves) in
      let rest = lead_kept marks marked next moved ahead turned steps to levels (λ m up. same_cursors m (omega arith))
      (λ m up. same_ahead m (omega arith)) lead.1 in
      rw (same_ahead n (omega arith)) (
        record {
          leaves = lead.0.leaves;
          up = up_kept marks marked e levels lead.0.up;
          cursor = omega (arith, lead.0.cursor, same_cursors to above);
        },
        rest,
      )

  -- no node on a way up is above the sink
  pub lead-le : (marks : List Mark) (next ahead : List ℕ) (steps n : ℕ) → IsLead g f marks next ahead sink steps n
      → level marks n ≤ level marks sink
  lead-le marks next ahead zero n lead = omega (arith, ap (level marks) lead)
  lead-le marks next ahead (suc steps) n lead =
      omega (
        arith,
        lead.0.up.up,
        ap (level marks) lead.0.leaves,
        lead-le marks next ahead steps (head g (slice_index ahead n)) lead.1,
      )

  -- a way up depends on the levels alone of the marks
  pub lead_marked : (marks marked : List Mark) (next ahead : List ℕ) (n : ℕ)
      → ((m : ℕ) → level marked m ≡ level marks m) → HasLead g f marks next ahead sink n
      → HasLead g f marked next ahead sink n
  lead_marked marks marked next ahead n levels (steps, lead) =
      (steps, lead_kept marks marked next next ahead ahead steps n levels (λ m up. refl) (λ m up. refl) lead)

  -- the cursor of its first node does not matter to a way up
  pub lead_moved : (marks : List Mark) (next ahead : List ℕ) (n cursor : ℕ) → HasLead g f marks next ahead sink n
      → HasLead g f marks (slice_set next n cursor) ahead sink n
  lead_moved marks next ahead n cursor (steps, lead) = (
    steps,
    lead_kept marks marks next (slice_set next n cursor) ahead ahead steps n (λ m. refl)
        (λ m up. get_or-set_other next n m cursor 0 (λ same. absurd (omega (arith, ap (level marks) same))))
        (λ m up. refl) lead,
  )

  -- a way up begins one entry before
  pub lead_longer : (marks : List Mark) (next ahead : List ℕ) (n cursor e from : ℕ)
      → HasLead g f marks next ahead sink n → IsUp g f marks e → tail g e ≡ from → head g e ≡ n
      → 0 < cursor → n < length next → from < length ahead
      → HasLead g f marks (slice_set next n cursor) (slice_set ahead from e) sink from
  lead_longer marks next ahead n cursor e from (steps, lead) up leaves leads some n_lt from_lt =
      let moved = slice_set next n cursor in
      let turned = slice_set ahead from e in
      let below : level marks from < level marks n = omega
      (arith, up.up, ap (level marks) leaves, ap (level marks) leads) in
      let here : slice_index turned from ≡ e = get_or-set_same ahead from e 0 from_lt in
      let rest =
      lead_kept marks marks next moved ahead turned steps n (λ m. refl)
      (λ m more. get_or-set_other next n m cursor 0 (λ same. absurd (omega (arith, ap (level marks) same))))
      (λ m more. get_or-set_other ahead from m e 0 (λ same. absurd (omega (arith, ap (level marks) same)))) lead in
      let stands : 0 < slice_index moved (head g e) = omega
      (arith, ap (slice_index moved) leads, get_or-set_same next n cursor 0 n_lt) in (
        suc steps,
        rw here (
          record { leaves = leaves; up = up; cursor = stands },
          subst (λ (m : ℕ). IsLead g f marks moved turned sink steps m) (sym leads) rest,
        ),
      )

-- a way up begins at a node of the network
pub lead_known : (p : Phase) (n : ℕ) → LeadsFrom p n → n < p.tables.residual.network.now.graph.nodes
lead_known p n (zero, lead) = omega (arith, lead, p.tables.at_work.sink_known)
lead_known p n (suc steps, lead) =
    let marks = p.tables.search.marks.items in
    let first = lead.0 in
    let here : HasMark marks n = omega (arith, first.up.marked, ap (level marks) first.leaves) in
    omega (arith, marked_lt marks n here, p.tables.at_work.levelled.size)

-- the entry that was read ahead of a node leads on up from it
pub lead_read : (p : Phase) (n e : ℕ) → LeadsFrom p n → n ≢ p.tables.sink → e ≡ get_or p.ahead.items n e
    → IsAhead p.tables.residual.network.now.graph (slice_index p.tables.residual.flow.items) p.tables.search.marks.items
    p.next.items n e × LeadsFrom p (head p.tables.residual.network.now.graph e)
lead_read p n e (zero, lead) ne read = absurd (ne lead)
lead_read p n e (suc steps, lead) ne read =
    let is = get_or_read p.ahead.items n e (omega (arith, lead_known p n (suc steps, lead), p.places)) read 0 in
    rw is (lead.0, (steps, lead.1))

-- a way up stands in other tables of the same task, flow and levels
pub lead_same : (t u : Tables) (next ahead : List ℕ) (n : ℕ) → SameTask t u → u.residual.flow ≡ t.residual.flow
    → ((m : ℕ) → level u.search.marks.items m ≡ level t.search.marks.items m)
    → HasLead t.residual.network.now.graph (slice_index t.residual.flow.items) t.search.marks.items next ahead t.sink n
    → HasLead u.residual.network.now.graph (slice_index u.residual.flow.items) u.search.marks.items next ahead
    u.sink n
lead_same t u next ahead n task flow levels lead =
    let marks = u.search.marks.items in
    rw (task.graph, task.sink, flow) (lead_marked t.residual.network.now.graph (slice_index t.residual.flow.items)
    t.sink t.search.marks.items marks next ahead n levels lead)

-- a measure with a count and a height falls where the count does
pub falls_back : (a b w x y : ℕ) → a < b → x < w → a * w + x < b * w + y
falls_back a b w x y less within = omega (arith, mul-add-lt a w x b less within, mul_comm w b)
