use Rattle.std.proofs.Common.{ℕ, ◌-◌, sym, subst, arith}
use Rattle.mm_sensitivity.specs.Items.{with_number}
use Rattle.mm_sensitivity.specs.Worth.{IsSaved}
use Rattle.mm_sensitivity.proofs.Found.{less_there, saved_there, least_first}
use Rattle.mm_sensitivity.proofs.base.Base.saved.Goals as goal

pub least_loss-requires-clause-least : goal.least_loss-requires-clause-least
least_loss-requires-clause-least c =
    let least = least_first c.args.self.now.problem.now c.args.item c.requires.base.problem c.requires.item in
    omega (arith, c.requires.larger)

pub returns-clause-saved : goal.returns-clause-saved
returns-clause-saved c =
    let q = c.args.self.now.problem.now in
    subst (λ (n : ℕ). IsSaved q (with_number q c.args.item c.args.blocks) (n - c.in_ok-loss.loss)) (sym c.loss.ensures)
    (saved_there q c.args.self.now.planned c.args.item c.requires.base c.requires.item
    c.only_counted_helps.ensures c.args.blocks c.in_ok-loss.loss c.in_ok-loss.ensures.least c.requires.larger)

pub overflow_sub-result : goal.overflow_sub-result
overflow_sub-result c =
    let less = less_there c.args.self.now.problem.now c.args.self.now.planned c.args.item c.requires.base
    c.requires.item c.only_counted_helps.ensures c.args.blocks c.in_ok-loss.loss c.in_ok-loss.ensures.least
    c.requires.larger in
    omega (arith, c.loss.ensures)
