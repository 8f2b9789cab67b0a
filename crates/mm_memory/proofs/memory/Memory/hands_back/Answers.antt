use Rattle.mm_memory.proofs.Words.{◌≡◌, List, All, refl, subst, ap, ◌∙◌, Held, Holdings, rows_for}
use Rattle.std.specs.Bool.{MatchBool}
use Rattle.std.specs.List.{Any}
use Rattle.mm_memory.specs.Spares.{LosesAsManyAsItKeeps, KeepsIt}
use Rattle.mm_memory.proofs.SpareLemmas.{one_is_lost, by_each}
use Rattle.mm_memory.proofs.memory.Memory.hands_back.Goals as goal

pub returns-then-some_free_memory : goal.returns-then-some_free_memory
returns-then-some_free_memory c =
    let are : c.rows_for_lent-rows.result.now ≡ rows_for c.args.self.now.routes c.args.packet.now =
    subst (λ (h : Holdings). c.rows_for_lent-rows.result.now ≡ rows_for h.routes c.args.packet.now) c.self.view_is
    c.rows_for_lent-rows.ensures in
    rw c.if-some_free_memory.true (one_is_lost c.rows_for_lent-rows.result.now c.args.packet.now c.args.self.now are
    (c.if-some_free_memory.ensures.lost refl))

pub returns-else-some_free_memory : goal.returns-else-some_free_memory
returns-else-some_free_memory c =
    let rows = c.rows_for_lent-rows.result.now in
    let answer = c.hand_back_along.result in
    let are : rows ≡ rows_for c.args.self.now.routes c.args.packet.now =
    subst (λ (h : Holdings). rows ≡ rows_for h.routes c.args.packet.now) c.self.view_is c.rows_for_lent-rows.ensures in
    let stores : c.deref.result.now ≡ c.args.self.now.stores =
    c.deref.ensures.value ∙ ap (λ (h : Holdings). h.stores) c.self.view_is in
    by_each rows c.args.packet.now c.args.self.now are answer
    (subst (λ (hs : List Held). MatchBool answer (All (LosesAsManyAsItKeeps rows) hs) (Any (KeepsIt rows) hs)) stores
    c.hand_back_along.ensures)
