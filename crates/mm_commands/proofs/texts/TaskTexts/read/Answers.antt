-- Each file that was not read is told after those that were.
use Rattle.mm_commands.specs.Reading.{IsUnread, listed}
use Rattle.mm_commands.proofs.Refusals.{names-two, read_after, told, unread_after, unread_before}
use Rattle.mm_commands.proofs.texts.TaskTexts.read.Goals as goal

pub returns-in_err-setup-clause-unread : goal.returns-in_err-setup-clause-unread
returns-in_err-setup-clause-unread g c =
    told (IsUnread (g.F.Files.content c.args.files.now) (g.F.Files.readings c.args.files.now) _ (listed c.args.names)) _
    c.from_residual.result c.from_residual.ensures.1 (unread_before _ _ _ _ _ _ c.in_err-setup.ensures.unread)

pub returns-in_err-plan-clause-unread : goal.returns-in_err-plan-clause-unread
returns-in_err-plan-clause-unread g c =
    let n = c.args.names in
    told (IsUnread (g.F.Files.content c.args.files.now) (g.F.Files.readings c.args.files.now) _ (listed n)) _
    c.from_residual-in_err-plan.result c.from_residual-in_err-plan.ensures.1
    (unread_after _ _ c.in_ok-setup.ensures.stays _ _ _ c.in_ok-setup.ensures.read _ _ _ _
    (names-two n.setup n.forecast _ _) (unread_before _ _ _ _ _ _ c.in_err-plan.ensures.unread))

pub returns-in_err-links-clause-unread : goal.returns-in_err-links-clause-unread
returns-in_err-links-clause-unread g c =
    let n = c.args.names in
    told (IsUnread (g.F.Files.content c.args.files.now) (g.F.Files.readings c.args.files.now) _ (listed n)) _
    c.from_residual-in_err-links.result c.from_residual-in_err-links.ensures.1
    (unread_after _ _ c.in_ok-setup.ensures.stays _ _ _ c.in_ok-setup.ensures.read _ _ _ _
    (names-two n.setup n.forecast _ _)
    (unread_after _ _ c.in_ok-plan.ensures.stays _ _ _ c.in_ok-plan.ensures.read _ _ _ _
    (names-two n.plan n.sources _ _) c.in_err-links.ensures.unread))

pub returns-clause-read : goal.returns-clause-read
returns-clause-read g c =
    read_after (g.F.Files.content c.args.files.now) _ c.in_ok-setup.ensures.stays _ _ _ c.in_ok-setup.ensures.read _ _
    (read_after _ _ c.in_ok-plan.ensures.stays _ _ _ c.in_ok-plan.ensures.read _ _ c.in_ok-links.ensures.read)
