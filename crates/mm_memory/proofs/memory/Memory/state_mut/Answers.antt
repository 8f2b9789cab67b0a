use Rattle.mm_memory.proofs.Words.{List, refl, sym, subst, ap, ◌∙◌, option_map, slice_get_read, State, Held, Holdings}
use Rattle.mm_memory.proofs.Words.{StandsAt, lent_alike, with_changed-stands}
use Rattle.mm_memory.proofs.LendingLemmas.{with_state-same}
use Rattle.mm_memory.proofs.memory.Memory.state_mut.Goals as goal

pub returns : goal.returns
returns c =
    let m = c.self.inside in
    let h = c.in_ok-held.held.now in
    let stands = subst (λ (l : List Held). StandsAt c.args.id.now l c.in_ok-place.place) c.deref.ensures.value
    c.in_ok-place.ensures.stands in
    let at = slice_get_read m.stores.items _ c.in_ok-place.place h refl stands.within c.in_ok-held.ensures.value in
    let written = λ (w : State). sym
    (with_changed-stands c.args.id.now (λ h. record h { state = w }) m.stores.items c.in_ok-place.place h
    c.self.invariant.named stands at) in
    rw (← c.self.view_is) (
      lent_alike _ _ _ (λ (w : State). ap
          (λ (stores : List Held). let left : Holdings = record { stores = stores; routes = m.control } in left)
          (written w)),
      record {
        lends = tt;
        state = ap (option_map (λ (x : Held). x.state)) (sym at ∙ sym stands.store);
        same = λ s found. with_state-same c.args.id.now m.stores.items m.control c.self.invariant.named s found;
      },
    )
