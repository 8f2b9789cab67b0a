use Rattle.mm_memory.proofs.Words.{◌∙◌, rules, Ok, items_from_collect, YieldsList-from_map, YieldsList-from_slice}
use Rattle.mm_memory.proofs.memory.Memory.entries.Goals as goal

pub returns-clause-entries : goal.returns-clause-entries
returns-clause-entries g c =
    let stores = c.self.inside.stores.items in
    rw (← c.self.view_is) (c.new.ensures.items ∙ items_from_collect {E = Unit {0}} (Ok c.in_ok-all.all)
    c.in_ok-all.ensures.ran (YieldsList-from_map _ g.T.OfStore.told (YieldsList-from_slice stores cc)
    c.map.ensures.closure (λ x r q k. search rules)))
