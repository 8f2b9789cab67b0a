use Rattle.std.proofs.Common.{◌≡◌, ◌+◌, ◌<◌, ◌≤◌, All, List, length}
use Rattle.mm_run.specs.declared.sources.SourceLine.{SourceLine}
use Rattle.mm_base.specs.Lines.{file_lines}
use Rattle.mm_run.specs.Sources.{IsSourceLine, with_lines, source_lines_of}
use Rattle.mm_run.specs.Drafts.{IsRead}
use Rattle.mm_run.specs.Counted.{HasCounted, all_unstored}
use Rattle.mm_run.proofs.sources.SourceFile.read_noting.Given as goal

abbrev pub invariant-loop-front : goal.invariant-loop-front
invariant-loop-front l = record {
  line : l.line + length l.rest ≤ 1 + length l.text;
  earlier : List SourceLine;
  read : IsRead earlier l.file l.opened;
  lines : with_lines l.line earlier (file_lines l.rest) ≡ source_lines_of l.text;
  start : l.count.start ≡ l.fn.count.start;
  fewer : all_unstored l.count.unstored < l.line;
  counts : HasCounted l.count earlier;
  ranged : All IsSourceLine earlier;
}

abbrev pub decreases-loop-front : goal.decreases-loop-front
decreases-loop-front l = length l.rest
