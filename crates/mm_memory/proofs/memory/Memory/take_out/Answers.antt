use Rattle.mm_memory.proofs.Words.{not, rules, has_id}
use Rattle.std.proofs.lemmas.Fn.{filter_same}
use Rattle.mm_memory.proofs.ApplyLemmas.{AreHeld-without}
use Rattle.mm_memory.proofs.memory.Memory.take_out.Goals as goal

pub invariant_of-self : goal.invariant_of-self
invariant_of-self c =
    let kept = filter_same _ (λ h. not (has_id c.args.id.now h)) _ (λ h b f' called. search rules) _ _
    c.retain.ensures.filtered in
    rw kept (AreHeld-without c.args.id.now c.self.inside.stores.items c.self.invariant)

pub returns-clause-stores : goal.returns-clause-stores
returns-clause-stores c =
    rw (← c.self.view_is) (filter_same _ (λ h. not (has_id c.args.id.now h)) _ (λ h b f' called. search rules) _ _
    c.retain.ensures.filtered)
