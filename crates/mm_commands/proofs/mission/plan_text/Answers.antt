use Rattle.std.proofs.Common.{◌∙◌, ap, inl, inr, subst, sym}
use Rattle.mm_command_line.specs.declared.task.Task.TheVariants.{Mission}
use Rattle.mm_files.specs.Contents.{seen}
use Rattle.mm_mission_text.specs.Missions.{mission_in}
use Rattle.mm_commands.specs.Missions.{told_fault}
use Rattle.mm_commands.specs.Refusing.{Completes, IsFaultIn}
use Rattle.mm_commands.proofs.Missions.{text_fault_in}
use Rattle.mm_commands.proofs.Refusals.{refuses}
use Rattle.mm_commands.proofs.mission.plan_text.Goals as goal

pub returns-in-Ok-clause-prints : goal.returns-in-Ok-clause-prints
returns-in-Ok-clause-prints g c contents readings same read =
    c.plan_said.ensures.prints contents readings c.args.texts.now.other.items
    (ap mission_in (sym c.deref.ensures.value) ∙ c.in-Ok.ensures) same read

pub returns-in-Err-clause-prints : goal.returns-in-Err-clause-prints
returns-in-Err-clause-prints g c contents readings same read =
    let streams = g.F.Files.has_streams in
    let asked = c.args.asked in
    let texts = c.args.texts.now in
    let task = Mission asked.name asked.part asked.output in
    let old = seen streams contents readings in
    let now = seen streams (g.F.Files.content c.args.files.now) (g.F.Files.readings c.args.files.now) in
    let before = g.W.Write.contents c.args.out.now in
    let after = g.W.Write.contents c.refuse_mission.new.out in
    let is = subst (λ e. IsFaultIn task texts (told_fault e)) (sym c.from.ensures)
    (text_fault_in asked.name asked.part asked.output texts c.in-Err.fault
    (λ other. ap mission_in (sym c.deref.ensures.value) ∙ c.in-Err.ensures other)) in
    refuses (λ status. Completes old now task status before after) old now task (told_fault c.from.result) before after
    c.refuse_mission.result same (inr (inl (record { texts = texts; read = read; is = is })))
    c.refuse_mission.ensures.line c.refuse_mission.ensures.status
