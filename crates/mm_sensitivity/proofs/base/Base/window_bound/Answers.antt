use Rattle.std.proofs.Common.{true, false, sym, ◌∙◌, arith}
use Rattle.std.proofs.lemmas.Int.{ints}
use Rattle.mm_sensitivity.proofs.Found.{bound_known}
use Rattle.mm_sensitivity.proofs.base.Base.window_bound.Goals as goal

pub returns-then-counts_window : goal.returns-then-counts_window
returns-then-counts_window c =
    let cs = c.args.self.now.planned.certificate in
    let is = c.requires.base.plan in
    let known = bound_known c.args.self.now.problem.now c.args.step c.requires.first c.requires.last cs.cut
    cs.by_channels c.args.blocks true (sym c.counts_window.ensures ∙ c.if-counts_window.true) in
    omega (arith, ints, is.shows_least.bound, is.most)

pub returns-else-counts_window : goal.returns-else-counts_window
returns-else-counts_window c =
    let cs = c.args.self.now.planned.certificate in
    let is = c.requires.base.plan in
    let known = bound_known c.args.self.now.problem.now c.args.step c.requires.first c.requires.last cs.cut
    cs.by_channels c.args.blocks false (sym c.counts_window.ensures ∙ c.if-counts_window.false) in
    omega (arith, ints, is.shows_least.bound, is.most)
