use Rattle.std.proofs.Common.{◌∙◌}
use Rattle.mm_files.specs.Contents.{seen}
use Rattle.mm_commands.proofs.Missions.{unnamed_settles, unread_settles}
use Rattle.mm_commands.proofs.Refusals.{read_after}
use Rattle.mm_commands.proofs.mission.plan_said.Goals as goal

pub returns-in_default-clause-prints : goal.returns-in_default-clause-prints
returns-in_default-clause-prints g c contents readings text says same read =
    let streams = g.F.Files.has_streams in
    let asked = c.args.asked in
    let old = seen streams contents readings in
    let now = seen streams (g.F.Files.content c.args.files.now) (g.F.Files.readings c.args.files.now) in
    unnamed_settles old now asked.name asked.part asked.output text c.args.said says _ _ c.refuse.result same read
    c.refuse.ensures.line c.refuse.ensures.status

pub returns-in-Ok-read-clause-prints : goal.returns-in-Ok-read-clause-prints
returns-in-Ok-read-clause-prints g c contents readings text says same read =
    c.plan_read.ensures.prints contents readings text says (c.in-Ok-read.ensures.stays ∙ same)
    (read_after contents (g.F.Files.content c.args.files.now) same readings _ _ read _ _ c.in-Ok-read.ensures.read)

pub returns-in-Err-clause-prints : goal.returns-in-Err-clause-prints
returns-in-Err-clause-prints g c contents readings text says same read =
    let streams = g.F.Files.has_streams in
    let asked = c.args.asked in
    let old = seen streams contents readings in
    let now = seen streams (g.F.Files.content c.read.new.files) (g.F.Files.readings c.read.new.files) in
    unread_settles old now asked.name asked.part asked.output text c.args.said says _ _ c.refuse-in-Err.result
    c.in-Ok.names c.in-Ok.ensures c.in-Err.fault _ _ (c.in-Err.ensures.stays ∙ same) same read c.in-Err.ensures.unread
    c.refuse-in-Err.ensures.line c.refuse-in-Err.ensures.status
