use Rattle.mm_desk.proofs.Words.{length, ap, arith, rules, Store, count_up_to-kept}
use Rattle.mm_desk.proofs.state.StoreState.delete.Goals as goal

pub invariant_of-self : goal.invariant_of-self
invariant_of-self c =
    let left = ap (λ (s : Store). length s.content) c.delete_up_to-count.ensures.after in
    let all = count_up_to-kept c.args.limit c.self.inside.store.content in
    search (arith, rules, left, all, c.delete_up_to-count.ensures, c.self.invariant, c.from.ensures)
