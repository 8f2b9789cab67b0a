use Rattle.std.proofs.Common.{IfOk, IfErr, inl, inr, subst}
use Rattle.mm_commands.specs.Answers.{IsAnswerTo}
use Rattle.mm_files.specs.Contents.{seen}
use Rattle.mm_commands.specs.Refusing.{Completes, IsFaultIn, Refuses}
use Rattle.mm_commands.proofs.Printing.{answer-prints}
use Rattle.mm_commands.proofs.Refusals.{refuses}
use Rattle.mm_commands.proofs.tasks.conclude.Goals as goal

pub returns-in-Ok-clause-prints : goal.returns-in-Ok-clause-prints
returns-in-Ok-clause-prints g c contents readings same read =
    let start = seen g.F.Files.has_streams contents readings in
    let mid = seen g.F.Files.has_streams (g.F.Files.content c.args.files.now) (g.F.Files.readings c.args.files.now) in
    let new = seen g.F.Files.has_streams (g.F.Files.content c.give.new.files) (g.F.Files.readings c.give.new.files) in
    let before = g.W.Write.contents c.args.out.now in
    let after = g.W.Write.contents c.give.new.out in
    answer-prints (λ status. Refuses start new c.args.task status before after) start mid new c.args.task
    c.args.texts.now c.in-Ok.answer before after c.give.result
    same read c.give.ensures.unread c.give.ensures.given c.give.ensures.others c.give.ensures.status
    (subst (λ answer. IfOk answer (IsAnswerTo c.args.task c.args.texts.now)) c.in-Ok.is c.requires.answers)

pub returns-in-Err-clause-prints : goal.returns-in-Err-clause-prints
returns-in-Err-clause-prints g c contents readings same read =
    let start = seen g.F.Files.has_streams contents readings in
    let now = seen g.F.Files.has_streams (g.F.Files.content c.args.files.now) (g.F.Files.readings c.args.files.now) in
    let before = g.W.Write.contents c.args.out.now in
    let after = g.W.Write.contents c.refuse.new.out in
    let is = subst (λ answer. IfErr answer (IsFaultIn c.args.task c.args.texts.now)) c.in-Err.is c.requires.refused in
    refuses (λ status. Completes start now c.args.task status before after) start now c.args.task c.in-Err.fault before
    after c.refuse.result same
    (inr (inl (record { texts = c.args.texts.now; read = read; is = is }))) c.refuse.ensures.line c.refuse.ensures.status
