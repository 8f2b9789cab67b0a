use Rattle.std.proofs.Common.{rules}
use Rattle.clap.specs.Words.{found_of}
use Rattle.mm_command_line.proofs.Finding.{all_found}
use Rattle.mm_command_line.proofs.line.words_in.Goals as goal

pub returns : goal.returns
returns c = record {
  words = all_found c.args.form.now (found_of c.args.files.now) c.loop-file.file-index _
      (search rules) c.loop-file.invariant;
}
