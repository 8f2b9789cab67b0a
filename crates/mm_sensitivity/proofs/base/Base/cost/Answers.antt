use Rattle.std.proofs.Common.{ℕ, ◌-◌, sym, subst, arith}
use Rattle.mm_sensitivity.specs.Items.{with_number}
use Rattle.mm_sensitivity.specs.Worth.{IsSaved}
use Rattle.mm_sensitivity.proofs.Found.{more_there, costs_there, least_first}
use Rattle.mm_sensitivity.proofs.base.Base.cost.Goals as goal

pub overflow_sub-result : goal.overflow_sub-result
overflow_sub-result c =
    let q = c.args.self.now.problem.now in
    let least = least_first q c.args.item c.requires.base.problem c.requires.item in
    let more = more_there q c.args.self.now.planned c.args.item c.requires.base c.requires.item
    c.only_counted_helps.ensures c.least_number-least.result c.in_ok-loss.loss c.in_ok-loss.ensures.least
    (omega (arith, c.least_number-least.ensures.least)) in
    omega (arith, c.loss.ensures)

pub returns : goal.returns
returns c =
    let q = c.args.self.now.problem.now in
    let i = c.args.item in
    let n = c.least_number-least.result in
    let m = c.in_ok-loss.loss in
    let least = least_first q i c.requires.base.problem c.requires.item in
    let costs = costs_there q c.args.self.now.planned i c.requires.base c.requires.item c.only_counted_helps.ensures
    n m c.in_ok-loss.ensures.least (omega (arith, c.least_number-least.ensures.least)) in
    subst (λ (k : ℕ). IsSaved (with_number q i k) q (m - c.loss.result)) c.least_number-least.ensures.least
    (subst (λ (k : ℕ). IsSaved (with_number q i n) q (m - k)) (sym c.loss.ensures) costs)
