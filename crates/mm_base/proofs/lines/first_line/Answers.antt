use Rattle.mm_base.proofs.FileLines.{line_before}
use Rattle.mm_base.proofs.lines.first_line.Goals as goal

pub returns-in-Some-clause-lines : goal.returns-in-Some-clause-lines
returns-in-Some-clause-lines c =
    line_before c.in-Some.line.now c.args.text.now c.in-Some.rest.now c.in-Some.ensures.lines
