use Rattle.std.proofs.Common.{rules, sym, ap, ◌∙◌, subst, w64}
use Rattle.std.specs.Prelude.{FitsSigned}
use Rattle.std.proofs.lemmas.Int.{to_z-of_z}
use Rattle.mm_problem.specs.Dumping.{Dumping}
use Rattle.mm_cut.specs.Cuts.{IsCut, bound}
use Rattle.mm_sensitivity.specs.declared.item.Item.{Item}
use Rattle.mm_sensitivity.specs.Items.{with_number}
use Rattle.mm_sensitivity.proofs.Found.{cut_there}
use Rattle.mm_sensitivity.proofs.base.Base.bound_there.Goals as goal

pub returns-then-blocks-leaving-clause-cut : goal.returns-then-blocks-leaving-clause-cut
returns-then-blocks-leaving-clause-cut c =
    let q = c.args.self.now.problem.now in
    let cs = c.args.self.now.planned.certificate in
    let there = c.requires.changed ∙ ap (λ (i : Item). with_number q i c.args.blocks) c.in-Window.is in
    subst (λ (r : Dumping). IsCut r cs.cut cs.by_channels) (sym there)
    (cut_there q c.in-Window.step c.args.blocks cs.cut cs.by_channels c.requires.base.plan.shows_least.cut)

pub returns-then-blocks-leaving-clause-bound : goal.returns-then-blocks-leaving-clause-bound
returns-then-blocks-leaving-clause-bound c =
    let q = c.args.self.now.problem.now in
    let cs = c.args.self.now.planned.certificate in
    let there = c.requires.changed ∙ ap (λ (i : Item). with_number q i c.args.blocks) c.in-Window.is in
    let fits : FitsSigned w64 c.window_bound.result = search rules in
    to_z-of_z w64 c.window_bound.result fits ∙ c.window_bound.ensures
    ∙ sym (ap (λ (r : Dumping). bound r cs.cut cs.by_channels) there)
