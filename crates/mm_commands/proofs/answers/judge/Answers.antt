use Rattle.mm_commands.proofs.Answering.{judges}
use Rattle.mm_commands.proofs.answers.judge.Goals as goal

pub returns-clause-judges : goal.returns-clause-judges
returns-clause-judges c =
    let given = c.in_ok-problem.field-0 in
    judges _ _ _ _ given.problem given.sheet _ c.in_ok-problem.ensures.problem c.in_ok-problem.ensures.sheet
    c.verdict_of-verdict.ensures c.in_ok-line.ensures.line
