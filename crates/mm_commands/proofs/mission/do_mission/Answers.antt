use Rattle.std.proofs.Common.{◌∙◌, ap, subst}
use Rattle.mm_command_line.specs.Names.{names_in}
use Rattle.mm_files.specs.Contents.{WereRead}
use Rattle.mm_commands.specs.Reading.{readings_of}
use Rattle.mm_commands.proofs.mission.do_mission.Goals as goal

pub returns-in-Ok-clause-prints : goal.returns-in-Ok-clause-prints
returns-in-Ok-clause-prints g c =
    let contents = g.F.Files.content c.args.files.now in
    let before = g.F.Files.readings c.args.files.now in
    let after = g.F.Files.readings c.read.new.files in
    let read = subst (λ names. WereRead contents before after (readings_of names c.in-Ok.texts))
    (c.names.ensures ∙ ap names_in c.task-task.ensures) c.in-Ok.ensures.read in
    c.plan_text.ensures.prints contents before c.in-Ok.ensures.stays read
