-- The plan was printed before the run, and the rest after it.
use Rattle.std.proofs.Common.{◌++◌, rules}
use Rattle.std.specs.Io.KnownBytes.{Appends}
use Rattle.mm_run.specs.Prepared.{plan_text_of}
use Rattle.mm_commands.specs.Answers.{given_plan, goal_of, tells_rest}
use Rattle.mm_commands.specs.Halts.{LeadsReport}
use Rattle.mm_commands.proofs.Flying.{prints-flown}
use Rattle.mm_commands.proofs.flight.carry_out.Goals as goal

pub returns-clause-flies : goal.returns-clause-flies
returns-clause-flies g c prepared =
    let plan = c.args.flight.plan in
    let before = g.W.Write.contents c.args.out.now in
    let mid = g.W.Write.contents c.print_plan.new.out in
    let after = g.W.Write.contents c.print_rest.new.out in
    let printed = c.carry_out-printed.result in
    let lead = c.lead_of-lead.result.items in
    let leads : LeadsReport (tells_rest plan) c.args.texts.now printed.left lead = search rules in
    let one : Appends before mid (plan_text_of c.args.run) = search rules in
    let two : Appends mid after (lead ++ printed.report.items ++ printed.end.items) = search rules in
    prints-flown plan c.args.texts.now printed _ lead c.status_of_run.result before mid after
    (c.carry_out-printed.ensures.runs (goal_of plan) (given_plan plan c.args.texts.now) _ _ _ _ prepared) leads
    c.carry_out-printed.ensures.plan_text
    c.status_of_run.ensures.status one two
