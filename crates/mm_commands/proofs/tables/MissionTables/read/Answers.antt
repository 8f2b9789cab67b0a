-- Each table that was not read is told after those that were.
use Rattle.std.proofs.Common.{◌++◌, ap₂, subst}
use Rattle.mm_files.specs.Contents.{WereRead}
use Rattle.mm_commands.specs.Reading.{IsUnread}
use Rattle.mm_commands.specs.Tables.{names_at}
use Rattle.mm_commands.proofs.Beside.{lent_name, lent_reading}
use Rattle.mm_commands.proofs.Refusals.{names-two, read_after, told, unread_after, unread_before}
use Rattle.mm_commands.proofs.tables.MissionTables.read.Goals as goal

pub returns-in_err-stores-clause-unread : goal.returns-in_err-stores-clause-unread
returns-in_err-stores-clause-unread g c =
    let contents = g.F.Files.content c.args.files.now in
    let before = g.F.Files.readings c.args.files.now in
    let first = ap₂ (λ a b. a ++ b) (lent_name c.lent.result _ c.lent.ensures)
    (lent_name c.lent-2.result _ c.lent-2.ensures) in
    told (IsUnread contents before _ (names_at c.args.names.now)) _ c.from_residual.result c.from_residual.ensures.1
    (unread_before _ _ _ _ _ _ (subst (λ names. IsUnread contents before (g.F.Files.readings c.read_two.new.files) names
    c.in_err-stores.field-0.0) first c.in_err-stores.ensures.unread))

pub returns-in_err-passes-clause-unread : goal.returns-in_err-passes-clause-unread
returns-in_err-passes-clause-unread g c =
    let contents = g.F.Files.content c.args.files.now in
    let before = g.F.Files.readings c.args.files.now in
    let first = ap₂ (λ a b. a ++ b) (lent_name c.lent.result _ c.lent.ensures)
    (lent_name c.lent-2.result _ c.lent-2.ensures) in
    let second = ap₂ (λ a b. a ++ b) (lent_name c.lent-3.result _ c.lent-3.ensures)
    (lent_name c.lent-4.result _ c.lent-4.ensures) in
    told (IsUnread contents before _ (names_at c.args.names.now)) _ c.from_residual-in_err-passes.result
    c.from_residual-in_err-passes.ensures.1
    (subst (λ names. IsUnread contents before (g.F.Files.readings c.read_two-2.new.files) names
    c.in_err-passes.field-0.0) (ap₂ (λ a b. a ++ b) first second)
    (unread_after _ _ c.in_ok-stores.ensures.stays _ _ _ c.in_ok-stores.ensures.read _ _ _ _
    (names-two c.lent.result c.lent-2.result _ _) c.in_err-passes.ensures.unread))

pub returns-clause-read : goal.returns-clause-read
returns-clause-read g c =
    let contents = g.F.Files.content c.args.files.now in
    let before = g.F.Files.readings c.args.files.now in
    let first = ap₂ (λ a b. a ++ b) (lent_reading c.lent.result _ _ c.lent.ensures)
    (lent_reading c.lent-2.result _ _ c.lent-2.ensures) in
    let second = ap₂ (λ a b. a ++ b) (lent_reading c.lent-3.result _ _ c.lent-3.ensures)
    (lent_reading c.lent-4.result _ _ c.lent-4.ensures) in
    subst (WereRead contents before _) (ap₂ (λ a b. a ++ b) first second)
    (read_after contents _ c.in_ok-stores.ensures.stays _ _ _ c.in_ok-stores.ensures.read _ _
    c.in_ok-passes.ensures.read)
