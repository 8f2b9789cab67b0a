use Rattle.std.proofs.Common.{sym, ap, ◌∙◌}
use Rattle.std.specs.Option.{option_map}
use Rattle.mm_cut.proofs.ShownFirsts.{all_but_last}
use Rattle.mm_cut.proofs.firsts.verdict_of.Goals as goal

pub verdict_with-requires-clause-all : goal.verdict_with-requires-clause-all
verdict_with-requires-clause-all c =
    let s = c.args.sheet.now in
    all_but_last c.args.problem.now s s.firsts c.in-Some.firsts.now c.requires.shape c.requires.is_sheet.same_stores c.requires.is_sheet.firsts (sym c.firsts.ensures ∙ ap (option_map (λ firsts. firsts.now)) c.in-Some.is)
