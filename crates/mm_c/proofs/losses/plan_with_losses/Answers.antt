use Rattle.mm_c.proofs.Words.{ap, ◌∙◌, Table, amount, losses_in}
use Rattle.mm_c.proofs.LossLists.{printed_with_losses}
use Rattle.mm_c.proofs.losses.plan_with_losses.Goals as goal

pub returns-clause-planned : goal.returns-clause-planned
returns-clause-planned c =
    let q = c.in_ok-problem.problem in
    let says = c.in_ok-problem.ensures.gives in
    let told = c.of-losses.ensures ∙ ap (λ (x : Table). losses_in q (amount x)) c.plan.ensures in
    let printed = c.in_ok-printed in
    printed_with_losses q c.args.setup.now c.args.forecast.now printed.printed c.of-losses.result.by_store says
    printed.ensures told
