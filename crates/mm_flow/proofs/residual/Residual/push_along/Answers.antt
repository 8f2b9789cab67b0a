use Rattle.std.proofs.Common.{◌≡◌, ℕ, List, length, slice_index, ap, subst, sym, arith}
use Rattle.std.proofs.lemmas.List.{with_items_is}
use Rattle.mm_flow.specs.Balance.{IsCarried, Augments}
use Rattle.mm_flow.specs.Links.{IsResidual}
use Rattle.mm_flow.proofs.residual.Residual.push_along.Goals as goal

pub push_along-requires-clause-carried : goal.push_along-requires-clause-carried
push_along-requires-clause-carried c =
    let r = c.args.self.now in
    subst (λ (flow : List ℕ). IsCarried r.network.now.graph flow) (sym c.deref_mut.ensures.value)
    (record { arcs = r.sound.arcs; within = r.sound.within; small = c.requires.small })

pub invariant_of-self : goal.invariant_of-self
invariant_of-self c =
    let r = c.args.self.now in
    let new = c.push_along.new.flow in
    let arcs : length new ≡ length r.network.now.graph.arcs = omega (arith, c.push_along.auto.flow, ap length c.deref_mut.ensures.value, r.sound.arcs) in
    let written = with_items_is r.flow new (omega (arith, c.push_along.auto.flow, c.deref_mut.ensures.len, r.flow.ok.0)) in
    record {
      sound = subst (λ (flow : List ℕ). IsResidual r.network.now.graph r.links flow) (sym written)
          (record { linked = r.sound.linked; arcs = arcs; within = c.push_along.ensures.within });
    }

pub returns-clause-augmented : goal.returns-clause-augmented
returns-clause-augmented c =
    let r = c.args.self.now in
    let IsMore = λ (old new : List ℕ). Augments r.network.now.graph c.args.search.now.source c.args.sink (slice_index old) (slice_index new) c.args.amount in
    let new = c.push_along.new.flow in
    let written = with_items_is r.flow new (omega (arith, c.push_along.auto.flow, c.deref_mut.ensures.len, r.flow.ok.0)) in
    subst (λ (flow : List ℕ). IsMore r.flow.items flow) (sym written)
    (subst (λ (flow : List ℕ). IsMore flow new) c.deref_mut.ensures.value c.push_along.ensures.augmented)
