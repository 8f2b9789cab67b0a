use Rattle.std.proofs.Common.{◌≡◌, List, ℕ, ◌++◌, length}
use Rattle.mm_base.specs.Lines.{text_lines}
use Rattle.mm_files.specs.Scripts.{before_heading}
use Rattle.mm_files.proofs.script.before_heading.Given as goal

-- the lines that were passed over stand before the next heading
abbrev pub invariant-loop-line : goal.invariant-loop-line
invariant-loop-line l = record {
  passed : List ℕ;
  cut : l.text ≡ passed ++ l.rest;
  before : before_heading (text_lines l.text) ≡ passed ++ before_heading (text_lines l.rest);
}

abbrev pub decreases-loop-line : goal.decreases-loop-line
decreases-loop-line l = length l.rest
