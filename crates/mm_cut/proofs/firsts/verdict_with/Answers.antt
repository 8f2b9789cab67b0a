use Rattle.std.proofs.Common.{refl, subst}
use Rattle.mm_plan.specs.Table.{Table, amount}
use Rattle.mm_cut.specs.Firsts.{ShowFirsts}
use Rattle.mm_cut.specs.Verdicts.{IsOwnVerdict}
use Rattle.mm_cut.specs.declared.verdict.Verdict.TheVariants.{Least}
use Rattle.mm_cut.proofs.ShownFirsts.{IsLeastInOrder-from_firsts}
use Rattle.mm_cut.proofs.firsts.verdict_with.Goals as goal

pub returns-in-None : goal.returns-in-None
returns-in-None c =
    let q = c.args.problem.now in
    let s = c.args.sheet.now in
    let own : IsOwnVerdict q s (Least c.in-Least.loss) = subst (IsOwnVerdict q s) c.in-Least.is c.requires.own in
    let show : ShowFirsts q (amount s.plan) c.args.firsts.now = subst (λ (x : Table). ShowFirsts q (amount x) c.args.firsts.now) c.plan.ensures (c.in-None.ensures.none.0 refl) in
    (own, show, IsLeastInOrder-from_firsts q (amount s.plan) c.args.firsts.now c.requires.all own.3 show)
