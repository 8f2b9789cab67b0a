use Rattle.std.proofs.Common.{◌≢◌, subst}
use Rattle.mm_files.specs.Contents.{seen}
use Rattle.mm_mission_plan.specs.Plans.{IsFaultOf, PlansMission}
use Rattle.mm_mission_plan.specs.declared.fault.Fault.TheVariants as of_plan
use Rattle.mm_commands.proofs.Missions.{fault_settles, planned_settles}
use Rattle.mm_commands.proofs.mission.plan_read.Goals as goal

pub returns-in-Ok-clause-prints : goal.returns-in-Ok-clause-prints
returns-in-Ok-clause-prints g c contents readings text says same read =
    let streams = g.F.Files.has_streams in
    let asked = c.args.asked in
    let old = seen streams contents readings in
    let new = seen streams (g.F.Files.content c.give.new.files) (g.F.Files.readings c.give.new.files) in
    let plans = subst (λ tables. PlansMission c.args.said tables c.in-Ok.planned) c.given.ensures
    c.in-Ok.ensures.planned in
    planned_settles old new asked.name asked.part asked.output text c.args.said says _ _ c.give.result
    c.args.tables.names.now c.requires.names c.args.tables.texts.now c.in-Ok.planned _ _ same c.give.ensures.unread read
    plans c.give.ensures.given c.give.ensures.others c.give.ensures.status

pub returns-in-Err-clause-prints : goal.returns-in-Err-clause-prints
returns-in-Err-clause-prints g c contents readings text says same read =
    let streams = g.F.Files.has_streams in
    let asked = c.args.asked in
    let old = seen streams contents readings in
    let now = seen streams (g.F.Files.content c.args.files.now) (g.F.Files.readings c.args.files.now) in
    let is = subst (λ tables. c.in-Err.fault ≢ of_plan.NoMemory → IsFaultOf c.args.said tables c.in-Err.fault)
    c.given.ensures c.in-Err.ensures.refused in
    fault_settles old now asked.name asked.part asked.output text c.args.said says _ _ c.refuse_mission.result
    c.args.tables.names.now c.requires.names c.args.tables.texts.now c.in-Err.fault same read is
    c.refuse_mission.ensures.line c.refuse_mission.ensures.status
