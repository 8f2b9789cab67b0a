use Rattle.mm_commands.proofs.answers.chart_text.Goals as goal

pub returns-then-worth-clause-charts : goal.returns-then-worth-clause-charts
returns-then-worth-clause-charts c = rw c.if-worth.true c.worth_chart.ensures.chart

pub returns-else-worth-clause-charts : goal.returns-else-worth-clause-charts
returns-else-worth-clause-charts c = rw c.if-worth.false c.plain_chart.ensures.chart
