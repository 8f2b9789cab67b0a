use Rattle.std.proofs.Common.{◌≡◌, drop}
use Rattle.mm_base.specs.Lines.{file_lines}
use Rattle.mm_told.proofs.hints.lines.after_lines.Given as goal

abbrev pub invariant-loop-passed : goal.invariant-loop-passed
invariant-loop-passed l = file_lines l.rest ≡ drop l._passed (file_lines l.text)
