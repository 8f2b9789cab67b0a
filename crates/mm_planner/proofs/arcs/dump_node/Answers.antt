use Rattle.std.proofs.Common.{refl, sym, ◌∙◌}
use Rattle.mm_planner.proofs.arcs.dump_node.Goals as goal

pub returns-in-Before : goal.returns-in-Before
returns-in-Before c = let is = sym c.come.ensures.come ∙ c.in-Before.is in record { node = rw is refl }

pub returns-in-During : goal.returns-in-During
returns-in-During c = let is = sym c.come.ensures.come ∙ c.in-During.is in record { node = rw is refl }
