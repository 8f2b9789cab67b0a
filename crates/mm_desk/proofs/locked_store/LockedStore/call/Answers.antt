use Rattle.mm_desk.proofs.Words.{subst, Answers, Reply, State}
use Rattle.mm_desk.proofs.Answering.{step_answers}
use Rattle.mm_desk.proofs.Logs.{run_more}
use Rattle.mm_desk.proofs.locked_store.LockedStore.call.Goals as goal

pub invariant_of-self-2 : goal.invariant_of-self-2
invariant_of-self-2 g c =
    rw (c.push_reserved.ensures.items, c.reserve.ensures.items, c.requires.logged, c.in_ok-copies.copies.same.0)
    (run_more _ _ _ _ _ _ _ c.self.invariant c.in_ok-copies.ensures.answer)

pub returns-clause-answers : goal.returns-clause-answers
returns-clause-answers g c =
    subst (λ (x : Reply × State). Answers c.args.event x.0) c.in_ok-copies.ensures.answer
    (step_answers c.self.inside.state c.args.event)
