use Rattle.mm_memory.proofs.Words.{subst, ◌∙◌, get_or_from_slice_get, Held, act, TakesMemory, ComesUnlessNoMemory}
use Rattle.mm_memory.proofs.ApplyLemmas.{stood, changed_comes}
use Rattle.mm_memory.proofs.memory.Memory.change.Goals as goal

pub returns : goal.returns
returns c = λ h found.
    let m = c.self.inside in
    let id = c.args.id.now in
    let change = c.args.change.now in
    let stands = rw (← c.self.view_is) at c.requires in
    let found_here = rw (← c.self.view_is) at found in
    let at = stood id m.stores.items c.args.place h stands found_here in
    let was = c.index_mut.ensures.value ∙ get_or_from_slice_get m.stores.items c.args.place h c.index_mut.result.now at
    in
    let done = subst (λ (x : Held). ComesUnlessNoMemory (TakesMemory change x) (act change x) x
    (c.change_store.result, c.change_store.new.held)) was c.change_store.ensures.done in
    rw (← c.self.view_is) (changed_comes id m.stores.items m.control c.args.place h c.change_store.new.held
    (TakesMemory change h) (act change h) c.change_store.result c.self.invariant.named stands at done)
