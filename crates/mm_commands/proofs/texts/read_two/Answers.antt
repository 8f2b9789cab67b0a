-- A file that was not read is told after one that was.
use Rattle.std.proofs.Common.{◌++◌}
use Rattle.mm_commands.specs.Reading.{IsUnread, name_of}
use Rattle.mm_commands.proofs.Refusals.{names-reading_of, read_after, told, unread_after, unread_before}
use Rattle.mm_commands.proofs.texts.read_two.Goals as goal

pub returns-in_err-one-clause-unread : goal.returns-in_err-one-clause-unread
returns-in_err-one-clause-unread g c =
    let contents = g.F.Files.content c.args.files.now in
    let before = g.F.Files.readings c.args.files.now in
    let first = name_of c.args.first in
    let second = name_of c.args.second in
    told (IsUnread contents before _ (first ++ second)) _ c.from_residual.result c.from_residual.ensures.1
    (unread_before contents before _ first second _ c.in_err-one.ensures.unread)

pub returns-in_err-other-clause-unread : goal.returns-in_err-other-clause-unread
returns-in_err-other-clause-unread g c =
    let contents = g.F.Files.content c.args.files.now in
    let before = g.F.Files.readings c.args.files.now in
    let first = name_of c.args.first in
    let second = name_of c.args.second in
    let e = c.in_err-other.field-0.0 in
    told (IsUnread contents before _ (first ++ second)) e c.from_residual-in_err-other.result
    c.from_residual-in_err-other.ensures.1
    (unread_after contents _ c.in_ok-one.ensures.stays before _ _ c.in_ok-one.ensures.read _ first second e
    (names-reading_of c.args.first _)
    c.in_err-other.ensures.unread)

pub returns-clause-read : goal.returns-clause-read
returns-clause-read g c =
    read_after (g.F.Files.content c.args.files.now) _ c.in_ok-one.ensures.stays _ _ _ c.in_ok-one.ensures.read _ _
    c.in_ok-other.ensures.read
