use Rattle.mm_dump.proofs.Words.{All, subst, take_all, arith, All-more, Held, IsState}
use Rattle.mm_dump.proofs.step.read_states.Goals as goal

pub loop-held-preserved : goal.loop-held-preserved
loop-held-preserved c =
    let sound = subst (λ (h : Held). IsState h.state) c.held-item.is c.store.ensures.is_state in
    All-more (λ (h : Held). IsState h.state) c.args.stores.now c.loop-held.held-index c.held-item.result
    c.loop-held-test.true c.loop-held.invariant sound

pub returns : goal.returns
returns c = subst (All (λ (h : Held). IsState h.state)) (take_all c.loop-held.held-index c.args.stores.now
    (omega (arith, c.loop-held-test.false))) c.loop-held.invariant
