-- What is kept and what is lost of a packet that several stores are offered, by what each of them keeps and loses.
use Rattle.mm_memory.proofs.Words.{◌≡◌, suc, zero, ℕ, ◌<◌, ◌≤◌, All, All-head, All-tail, List, [], ◌∷◌, length, arith}
use Rattle.mm_memory.proofs.Words.{SpacePacket, RouteRow, Held, Holdings, packet_along, rows_for, tally_over}
use Rattle.mm_memory.proofs.Words.{Bool, true, false, refl, sym, subst}
use Rattle.std.specs.Bool.{MatchBool}
use Rattle.std.specs.List.{Any, slice_index_or}
use Rattle.mm_memory.specs.Recording.{tally_after}
use Rattle.mm_memory.specs.Spares.{LosesOne, LosesAsManyAsItKeeps, KeepsIt, IsKept, IsKeptForAnother}
use Rattle.mm_memory.specs.declared.tally.Tally.{Tally}
use Rattle.mm_memory.proofs.RoutingLemmas.{told_along}

-- where the store at a place loses a packet, one is lost
lost_at : (rows : List RouteRow) (stores : List Held) (k : ℕ) (x : Held) → k < length stores
    → slice_index_or stores k x ≡ x → LosesOne rows x → (now : ℕ) (p : SpacePacket)
    → 0 < (tally_over now (packet_along rows p) stores).lost
lost_at rows [] k x within is loses now p = absurd (omega (arith, within))
lost_at rows (h ∷ hs) zero x within is loses now p =
    let here = subst (LosesOne rows) (sym is) loses now p in
    omega (arith, here)
lost_at rows (h ∷ hs) (suc k) x within is loses now p =
    let rest = lost_at rows hs k x (omega (arith, within)) is loses now p in
    omega (arith, rest)

-- where one store loses a packet, one is lost
over_lost : (rows : List RouteRow) (stores : List Held) → Any (LosesOne rows) stores → (now : ℕ) (p : SpacePacket)
    → 0 < (tally_over now (packet_along rows p) stores).lost
over_lost rows stores some = lost_at rows stores some.0 some.1 some.2 some.3 some.4

-- where each store loses as many as it keeps, as many are lost
over_as_many : (rows : List RouteRow) (stores : List Held) → All (LosesAsManyAsItKeeps rows) stores
    → (now : ℕ) (p : SpacePacket)
    → (tally_over now (packet_along rows p) stores).kept ≤ (tally_over now (packet_along rows p) stores).lost
over_as_many rows [] all now p = omega arith
over_as_many rows (h ∷ hs) all now p =
    let here = All-head (LosesAsManyAsItKeeps rows) h hs all now p in
    let rest = over_as_many rows hs (All-tail (LosesAsManyAsItKeeps rows) h hs all) now p in
    omega (arith, here, rest)

-- where the store at a place keeps the packet, it is kept
kept_at : (rows : List RouteRow) (stores : List Held) (k : ℕ) (x : Held) → k < length stores
    → slice_index_or stores k x ≡ x → KeepsIt rows x → (now : ℕ) (p : SpacePacket)
    → 0 < (tally_over now (packet_along rows p) stores).kept
kept_at rows [] k x within is keeps now p = absurd (omega (arith, within))
kept_at rows (h ∷ hs) zero x within is keeps now p =
    let here = subst (KeepsIt rows) (sym is) keeps now p in
    omega (arith, here)
kept_at rows (h ∷ hs) (suc k) x within is keeps now p =
    let rest = kept_at rows hs k x (omega (arith, within)) is keeps now p in
    omega (arith, rest)

-- where one store keeps the packet, it is kept
over_kept : (rows : List RouteRow) (stores : List Held) → Any (KeepsIt rows) stores → (now : ℕ) (p : SpacePacket)
    → 0 < (tally_over now (packet_along rows p) stores).kept
over_kept rows stores some = kept_at rows stores some.0 some.1 some.2 some.3 some.4

module _ (rows : List RouteRow) (p : SpacePacket) (m : Holdings) (are : rows ≡ rows_for m.routes p) where
  -- what is told along the rows is what is told of the memory
  told : (now : ℕ) → tally_over now (packet_along rows p) m.stores ≡ tally_after now p m
  told now = told_along now p m rows (tally_over now (packet_along rows p) m.stores) are refl

  -- where one store loses a packet
  pub one_is_lost : Any (LosesOne rows) m.stores → IsKeptForAnother p m
  one_is_lost some now kept = subst (λ (t : Tally). 0 < t.lost) (told now) (over_lost rows m.stores some now p)

  -- where each store loses as many as it keeps
  as_many_are_lost : All (LosesAsManyAsItKeeps rows) m.stores → IsKeptForAnother p m
  as_many_are_lost all now kept =
      let here = subst (λ (t : Tally). 0 < t.kept) (sym (told now)) kept in
      subst (λ (t : Tally). 0 < t.lost) (told now) (omega (arith, here, over_as_many rows m.stores all now p))

  -- where one store keeps the packet
  one_keeps : Any (KeepsIt rows) m.stores → IsKept p m
  one_keeps some now = subst (λ (t : Tally). 0 < t.kept) (told now) (over_kept rows m.stores some now p)

  -- by what each store does
  pub by_each : (b : Bool) → MatchBool b (All (LosesAsManyAsItKeeps rows) m.stores) (Any (KeepsIt rows) m.stores)
      → MatchBool b (IsKeptForAnother p m) (IsKept p m)
  by_each true all = as_many_are_lost all
  by_each false some = one_keeps some
