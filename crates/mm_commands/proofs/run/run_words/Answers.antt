use Rattle.std.proofs.Common.{map, sym, ap, ◌∙◌}
use Rattle.mm_files.specs.Contents.{seen}
use Rattle.mm_commands.specs.Streams.{reads_twice}
use Rattle.mm_commands.proofs.Codes.{task-does, twice-does, twice-taken}
use Rattle.mm_commands.proofs.run.run_words.Goals as goal

-- The words have standard input for more than one file.
pub returns-in-Ok-clause-does : goal.returns-in-Ok-clause-does
returns-in-Ok-clause-does g c =
    twice-does (seen g.F.Files.has_streams (g.F.Files.content c.args.files.now) (g.F.Files.readings c.args.files.now))
    (map g.S.AsStr.text c.args.words.now) c.in-Ok.task (g.W.Write.contents c.args.out.now) c.bad_line.result
    c.in-Ok.ensures.spelled
    (ap (λ streams. reads_twice streams c.in-Ok.task) (sym c.has_streams.ensures.streams) ∙ sym c.reads_twice.ensures
    ∙ c.if-reads_twice.true)
    (sym c.asks_version.ensures.asks ∙ c.if-asks_version.false) c.bad_line.ensures.status

pub returns-in-Ok-clause-taken : goal.returns-in-Ok-clause-taken
returns-in-Ok-clause-taken g c line once =
    twice-taken g.F.Files.has_streams (map g.S.AsStr.text c.args.words.now) c.in-Ok.task c.bad_line.result once
    c.in-Ok.ensures.spelled
    (ap (λ streams. reads_twice streams c.in-Ok.task) (sym c.has_streams.ensures.streams) ∙ sym c.reads_twice.ensures
    ∙ c.if-reads_twice.true)

pub returns-in-Ok-2-clause-does : goal.returns-in-Ok-2-clause-does
returns-in-Ok-2-clause-does g c =
    let streams = g.F.Files.has_streams in
    task-does (seen streams (g.F.Files.content c.args.files.now) (g.F.Files.readings c.args.files.now))
    (seen streams (g.F.Files.content c.do_task.new.files) (g.F.Files.readings c.do_task.new.files))
    (map g.S.AsStr.text c.args.words.now) c.in-Ok.task (g.W.Write.contents c.args.out.now)
    (g.W.Write.contents c.do_task.new.out) c.do_task.result c.in-Ok.ensures.spelled
    (ap (λ s. reads_twice s c.in-Ok.task) (sym c.has_streams.ensures.streams) ∙ sym c.reads_twice.ensures
    ∙ c.if-reads_twice.false) c.do_task.ensures.prints
