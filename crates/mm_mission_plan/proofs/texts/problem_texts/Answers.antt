use Rattle.mm_mission_plan.proofs.ProblemTexts.{is_setup, says}
use Rattle.mm_mission_plan.proofs.texts.problem_texts.Goals as goal

pub print_setup-requires : goal.print_setup-requires
print_setup-requires c =
    rw (c.deref.ensures.value, c.in_ok-rows.ensures.rows, c.come.ensures.come)
    (is_setup c.args.mission.now c.args.edges.now c.args.problem.now c.requires c.steps-steps.ensures.is_dumping
    c.in_ok-rows.ensures.ids)

pub returns : goal.returns
returns c =
    let read = rw (c.deref.ensures.value, c.in_ok-rows.ensures.rows, c.come.ensures.come) at c.in_ok-setup.ensures in
    says c.args.mission.now c.args.edges.now c.args.problem.now c.requires c.in_ok-setup.setup.items
    c.in_ok-forecast.forecast.items c.forecasts.ensures c.steps-steps.ensures.is_dumping c.in_ok-rows.ensures.ids read
    c.in_ok-forecast.ensures
