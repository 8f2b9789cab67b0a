use Rattle.mm_memory.proofs.Words.{List, refl, sym, subst, ap, ◌∙◌, option_map, slice_get_read, field_of, State, Held}
use Rattle.mm_memory.proofs.Words.{Holdings, NamesAt, lent_alike, with_changed-stands}
use Rattle.mm_memory.proofs.LendingLemmas.{with_state-same}
use Rattle.mm_memory.proofs.TextLemmas.{store_is}
use Rattle.mm_memory.proofs.memory.Memory.named_mut.Goals as goal

pub returns : goal.returns
returns c =
    let text = c.args.text.now in
    let field = field_of text in
    let m = c.self.inside in
    let h = c.in_ok-held.held.now in
    let named = subst (λ (l : List Held). NamesAt text l c.in_ok-place.place) c.deref.ensures.value
    c.in_ok-place.ensures.named in
    let stands = named.stands in
    let at = slice_get_read m.stores.items _ c.in_ok-place.place h refl stands.within c.in_ok-held.ensures.value in
    let written = λ (w : State). sym
    (with_changed-stands field (λ h. record h { state = w }) m.stores.items c.in_ok-place.place h c.self.invariant.named
    stands at) in
    let is_store = store_is text m.stores.items named.is_text in
    rw (← c.self.view_is) (
      lent_alike _ _ _ (λ (w : State). ap
          (λ (stores : List Held). let left : Holdings = record { stores = stores; routes = m.control } in left)
          (written w)),
      record {
        lends = tt;
        state = ap (option_map (λ (x : Held). x.state)) (sym at ∙ sym stands.store ∙ sym is_store);
        same = λ s found. with_state-same field m.stores.items m.control c.self.invariant.named s
            (ap (option_map (λ (x : Held). x.state)) (sym is_store) ∙ found);
      },
    )
