use Rattle.std.proofs.Common.{◌≡◌, ◌≤◌, false, sym, ap, ◌∙◌, subst, arith}
use Rattle.std.proofs.lemmas.Bool.{not-true, eqb-true}
use Rattle.mm_problem.specs.Dumping.{window}
use Rattle.mm_cut.specs.Cuts.{counts_window}
use Rattle.mm_sensitivity.specs.declared.item.Item.{Item}
use Rattle.mm_sensitivity.specs.declared.item.Item.TheVariants.{Window}
use Rattle.mm_sensitivity.specs.Items.{IsItem, number, with_number}
use Rattle.mm_sensitivity.specs.Worth.{IsLeastLoss}
use Rattle.mm_sensitivity.proofs.Found.{alike_own, wider_least}
use Rattle.mm_sensitivity.proofs.base.Base.loses_alike.Goals as goal

pub returns-then-now-blocks-2 : goal.returns-then-now-blocks-2
returns-then-now-blocks-2 c is =
    let q = c.args.self.now.problem.now in
    let p = c.args.self.now.planned in
    let t = c.in-Window.step in
    let b = c.args.blocks in
    let here : c.args.item ≡ Window t = c.in-Window.is in
    let item : IsItem q (Window t) = subst (IsItem q) here c.requires.item in
    let value : number q c.args.item ≡ window q t = ap (number q) here in
    let wider : window q t ≤ b = omega (arith, c.number-now.ensures.number, c.if-now-blocks-2.true) in
    let other : counts_window q p.certificate.cut p.certificate.by_channels t ≡ false = sym c.counts_window.ensures
    ∙ not-true c.counts_window.result is in
    subst (λ (i : Item). IsLeastLoss (with_number q i b) p.certificate.loss) (sym here)
    (wider_least c.cuts_bound_losses.ensures q t b p.plan p.certificate.cut p.certificate.by_channels p.certificate.loss
    item.0 item.1 wider other c.requires.base.plan.shows_least)

pub returns-in_default : goal.returns-in_default
returns-in_default c is =
    let q = c.args.self.now.problem.now in
    let same = sym c.number-now.ensures.number ∙ eqb-true c.number-now.result c.args.blocks is in
    alike_own q c.args.self.now.planned c.args.item c.requires.base c.requires.item c.args.blocks same
