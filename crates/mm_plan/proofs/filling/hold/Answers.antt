use Rattle.std.proofs.Common.{get_or, refl, sym, ap, ◌∙◌}
use Rattle.mm_problem.specs.Dumping.{size}
use Rattle.mm_plan.specs.Volumes.{held_by}
use Rattle.mm_plan.proofs.filling.hold.Goals as goal

pub returns-in-Before : goal.returns-in-Before
returns-in-Before c = let is = sym c.come.ensures.come ∙ c.in-Before.is in record { held = λ s store. rw is refl }

pub returns-in-During : goal.returns-in-During
returns-in-During c =
    let q = c.args.problem.now in
    let is = sym c.come.ensures.come ∙ c.in-During.is in
    record {
      held = λ s store. c.cut_to_sizes.ensures.cut s store
          ∙ ap (λ come. held_by come (size q s c.args.step) (get_or c.args.left.now s 0)) (sym is);
    }
