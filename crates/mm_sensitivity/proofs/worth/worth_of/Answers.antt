use Rattle.std.proofs.Common.{sym, subst}
use Rattle.mm_sensitivity.specs.Items.{next_number, with_number}
use Rattle.mm_sensitivity.specs.Worth.{IsSaved}
use Rattle.mm_sensitivity.proofs.worth.worth_of.Goals as goal

pub returns-clause-worth : goal.returns-clause-worth
returns-clause-worth c =
    let q = c.args.base.now.problem.now in
    let i = c.args.item in
    record {
      item = c.requires.item;
      now = c.number-now.ensures.number;
      next = subst (λ n. IsSaved q (with_number q i (next_number n)) c.in_ok-next.next)
          (sym c.number-now.ensures.number) c.in_ok-next.ensures;
      most = c.in_ok-most.ensures.saved;
      without = c.in_ok-without.ensures;
    }
