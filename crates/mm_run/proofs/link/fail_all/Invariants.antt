use Rattle.std.proofs.Common.{◌≡◌, ◌+◌, ◌≤◌, [], List, length}
use Rattle.mm_run.specs.declared.link.Failing.{Failing}
use Rattle.mm_base.specs.Lines.{file_lines}
use Rattle.mm_run.specs.Links.{AreLinked, with_failing}
use Rattle.mm_run.proofs.link.fail_all.Given as goal

abbrev pub invariant-loop-front : goal.invariant-loop-front
invariant-loop-front l = record {
  line : l.line + length l.rest ≤ 2 + length l.text;
  earlier : List Failing;
  linked : AreLinked (record { count = l.count; failing = earlier }) l.links.items;
  lines : with_failing l.count l.line earlier (file_lines l.rest) ≡ with_failing l.count 2 [] (file_lines l.text);
}

abbrev pub decreases-loop-front : goal.decreases-loop-front
decreases-loop-front l = length l.rest
