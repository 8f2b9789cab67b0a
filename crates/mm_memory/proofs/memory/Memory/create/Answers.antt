use Rattle.mm_memory.proofs.Words.{ap, arith, is_ok, Held}
use Rattle.mm_memory.proofs.ApplyLemmas.{AreHeld-pushed}
use Rattle.mm_memory.proofs.memory.Memory.create.Goals as goal

pub invariant_of-self : goal.invariant_of-self
invariant_of-self c =
    let m = c.self.inside in
    let absent = rw (← c.self.view_is) at c.requires in
    rw c.push.ensures.items (AreHeld-pushed (is_ok c.push.result) c.args.id m.stores.items c.in_ok-held.held
    c.self.invariant (ap (λ (h : Held). h.id) c.in_ok-held.ensures) absent (omega (arith, m.stores.ok.0)))
