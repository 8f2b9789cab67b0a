use Rattle.std.proofs.Common.{◌≡◌, ◌∙◌, ap, map, subst, sym}
use Rattle.clap.proofs.TakesLemmas.{passed_up}
use Rattle.clap.specs.Words.{kind_of}
use Rattle.clap.specs.declared.error.kind.ErrorKind.TheVariants.{OutOfMemory}
use Rattle.mm_command_line.specs.Lines.{ArePlain, HasOptions, IsCommandLine, Parts, command_words, without_dashes}
use Rattle.mm_command_line.proofs.Names.{line_command, line_whole, line_words}
use Rattle.mm_command_line.proofs.line.parse.Goals as goal

pub returns-in_err-task-clause-memory : goal.returns-in_err-task-clause-memory
returns-in_err-task-clause-memory g c line =
    let words = map g.S.AsStr.text c.args.words.now in
    let plain = ap (map (λ word. word.now)) c.deref.ensures.value
    ∙ ap (λ (parts : Parts). parts.command) c.in_ok-line.ensures.parts in
    let kind = c.in_err-task.ensures.memory (subst IsCommandLine (sym plain) (line_command words line)) in
    passed_up c.from_residual-in_err-task.result c.in_err-task.field-0.0 (λ e. kind_of e ≡ OutOfMemory)
    c.from_residual-in_err-task.ensures.1 kind

pub returns-in-Some-clause-spelled : goal.returns-in-Some-clause-spelled
returns-in-Some-clause-spelled g c =
    let plain = ap (map (λ word. word.now)) c.deref.ensures.value
    ∙ ap (λ (parts : Parts). parts.command) c.in_ok-line.ensures.parts in
    record {
      command = subst (λ ws. ArePlain ws (command_words c.in-Some.task)) plain
          (subst (ArePlain _) (sym c.in-Some.ensures.words) c.in_ok-task.ensures.spelled);
      options = subst (λ parts. HasOptions parts c.in-Some.task) c.in_ok-line.ensures.parts c.in-Some.ensures.options;
    }

pub returns-clause-memory : goal.returns-clause-memory
returns-clause-memory g c line =
    let words = map g.S.AsStr.text c.args.words.now in
    let plain = ap (map (λ word. word.now)) c.deref.ensures.value
    ∙ ap (λ (parts : Parts). parts.command) c.in_ok-line.ensures.parts in
    let same = line_words words line ∙ sym (line_whole _ (line_command words line)) ∙ ap without_dashes (sym plain)
    ∙ sym c.in_ok-task.ensures.spelled.same in
    absurd (c.in-None.ensures.none line.task same
    (subst (λ parts. HasOptions parts line.task) (sym c.in_ok-line.ensures.parts) line.spelled.options))
