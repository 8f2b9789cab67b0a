use Rattle.mm_c.proofs.Words.{◌≡◌, ◌≤◌, length, arith, MAX_STORES, amount}
use Rattle.mm_c.proofs.LossLists.{are_losses}
use Rattle.mm_c.proofs.losses.LossesTold.of.Goals as goal

pub returns : goal.returns
returns c =
    let told = c.loop-store.invariant in
    let few : length c.args.problem.now.rows ≤ MAX_STORES = c.stores-store-end.ensures.is_dumping.stores.at_most in
    let all : c.loop-store.store ≡ length c.args.problem.now.rows = omega arith in
    are_losses c.args.problem.now (amount c.args.plan.now) c.loop-store.by_store few told.places
    (λ s below. told.lost s (omega arith)) (λ s past within. told.rest s (omega arith) within)
