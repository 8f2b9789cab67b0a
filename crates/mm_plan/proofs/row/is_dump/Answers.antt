use Rattle.std.proofs.Common.{◌++◌, ◌∙◌, ap, sym}
use Rattle.std.specs.Prelude.{codes}
use Rattle.mm_plan.proofs.Rows.{dump_text}
use Rattle.mm_plan.proofs.row.is_dump.Goals as goal

pub returns-then-front-step-clause-text : goal.returns-then-front-step-clause-text
returns-then-front-step-clause-text c = λ is.
    let begins = c.in-Some.ensures in
    let number = rw (c.if-front-step.true, c.read_row.ensures.text is) at c.in-Some-spaced_number.ensures.text in
    begins ∙ ap (λ rest. codes "dump" ++ rest) number ∙ sym (dump_text c.args.step _)
