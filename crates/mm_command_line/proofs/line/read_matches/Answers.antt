use Rattle.std.proofs.Common.{◌∙◌, map, subst, sym, ap, true≢false}
use Rattle.std.specs.List.{All}
use Rattle.clap.specs.Words.{found_of, rows_of, subcommand_rows_of}
use Rattle.mm_command_line.specs.Commands.{entry_of}
use Rattle.mm_command_line.specs.Lines.{ArePlain, IsFileName}
use Rattle.mm_command_line.proofs.Finding.{line_is, same_words}
use Rattle.mm_command_line.proofs.Names.{line_names, line_whole}
use Rattle.mm_command_line.proofs.Plain.{still_none, task_read}
use Rattle.mm_command_line.proofs.line.read_matches.Goals as goal

pub returns-in_default-2-clause-none : goal.returns-in_default-2-clause-none
returns-in_default-2-clause-none c line found =
    let words = map (λ word. word.now) c.args.words.now in
    let flagged : (All IsFileName words → ⊥) = rw c.in_default-2.is at c.in_ok-given.ensures.flagged in
    flagged (line_names words line)

pub returns-then-eq-clause-spelled : goal.returns-then-eq-clause-spelled
returns-then-eq-clause-spelled c =
    let words = map (λ word. word.now) c.args.words.now in
    let given : ArePlain words (map (λ word. word.now) c.in-Some-2.given.items) =
    rw c.in-Some-2.is at c.in_ok-given.ensures.plain in
    let read = ap (map (λ word. word.now)) c.deref.ensures.value in
    task_read words _ (subst (ArePlain words) (sym read) given) c.task_of.result c.task_of.ensures.spelled

pub returns-then-eq-clause-none : goal.returns-then-eq-clause-none
returns-then-eq-clause-none c =
    let same = (same_words c.in_ok-found.found.items c.in-Some-2.given.items c.eq.result c.eq.ensures).0 c.if-eq.true in
    let read = ap (map (λ word. word.now)) c.deref.ensures.value ∙ sym same in
    still_none c.task_of.result c.task_of.ensures.none (λ unread line found. unread line.task (line.spelled ∙ sym (read
    ∙ line_is (subcommand_rows_of c.args.matches.now) (entry_of c.in-Some.form.now)
    (rows_of (found_of c.in-Some.files.now)) _ _
    c.in-Some.ensures.row c.in_ok-found.ensures.words found)))

pub returns-clause-none : goal.returns-clause-none
returns-clause-none c line found =
    let words = map (λ word. word.now) c.args.words.now in
    let given : ArePlain words (map (λ word. word.now) c.in-Some-2.given.items) =
    rw c.in-Some-2.is at c.in_ok-given.ensures.plain in
    let is = line_is (subcommand_rows_of c.args.matches.now) (entry_of c.in-Some.form.now)
    (rows_of (found_of c.in-Some.files.now)) words _ c.in-Some.ensures.row c.in_ok-found.ensures.words found in
    let equal = (same_words c.in_ok-found.found.items c.in-Some-2.given.items c.eq.result c.eq.ensures).1
    (is ∙ sym (line_whole words line) ∙ sym given.same) in
    true≢false (sym equal ∙ c.if-eq.false)
