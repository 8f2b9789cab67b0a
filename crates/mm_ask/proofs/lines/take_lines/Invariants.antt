use Rattle.std.proofs.Common.{◌≤◌, ◌+◌, length}
use Rattle.mm_base.specs.Lines.{text_lines}
use Rattle.mm_ask.proofs.LineLemmas.{LeadsOn}
use Rattle.mm_ask.proofs.lines.take_lines.Given as goal

abbrev pub invariant-loop-octets : goal.invariant-loop-octets
invariant-loop-octets g l = record {
  so_far : LeadsOn g.T.TakeLine.leaves l.line (text_lines l.rest) l.taker (text_lines l.text) l.initial.taker;
  line : l.line + length l.rest ≤ 1 + length l.text;
}

abbrev pub decreases-loop-octets : goal.decreases-loop-octets
decreases-loop-octets g l = length l.rest
