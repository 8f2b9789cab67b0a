use Rattle.std.proofs.Common.{ap, ◌∙◌, w64}
use Rattle.std.proofs.lemmas.Int.{to_z-of_z}
use mir.Val.{of_z, to_z}
use Rattle.mm_cut.proofs.SameVerdict.{same_verdict}
use Rattle.mm_cut.proofs.firsts.own_verdict.Goals as goal

pub returns : goal.returns
returns c =
    let sheet = c.args.sheet.now in
    let kept = to_z-of_z w64 sheet.bound c.requires.is_sheet.bound in
    same_verdict c.args.problem.now c.verify.result c.plan.result.now sheet.plan c.cut.result.now sheet.cut c.by_channels.result.now sheet.by_channels c.loss.result sheet.loss (to_z w64 (of_z w64 c.bound.result)) sheet.bound
    c.plan.ensures c.cut.ensures c.by_channels.ensures c.loss.ensures (ap (λ z. to_z w64 (of_z w64 z)) c.bound.ensures ∙ kept) c.verify.ensures.verdict
