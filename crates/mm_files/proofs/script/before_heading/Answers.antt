use Rattle.std.proofs.Common.{sym, ap, ◌∙◌, ◌++◌, append_assoc}
use Rattle.mm_base.specs.Lines.{text_lines}
use Rattle.mm_files.specs.Scripts.{before_heading}
use Rattle.mm_files.proofs.ScriptLemmas.{passes}
use Rattle.mm_files.proofs.script.before_heading.Goals as goal

pub loop-line-preserved : goal.loop-line-preserved
loop-line-preserved c =
    let passed = c.loop-line.invariant.passed in
    let rest = c.first_line.result.1.now in
    let next = passes c.loop-line.rest.now c.first_line.result.0.now rest c.first_line.ensures.lines
    (sym c.is_heading.ensures ∙ c.if-is_heading.false) in
    record {
      passed = passed ++ next.0;
      cut = c.loop-line.invariant.cut ∙ ap (λ t. passed ++ t) next.1.0 ∙ sym (append_assoc passed next.0 rest);
      before = c.loop-line.invariant.before ∙ ap (λ t. passed ++ t) next.1.1
          ∙ sym (append_assoc passed next.0 (before_heading (text_lines rest)));
    }
