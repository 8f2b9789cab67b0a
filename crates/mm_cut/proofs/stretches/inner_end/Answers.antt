use Rattle.std.proofs.Common.{sym, ◌∙◌, arith}
use Rattle.mm_cut.proofs.stretches.inner_end.Goals as goal

pub returns-in-Before-clause-end : goal.returns-in-Before-clause-end
returns-in-Before-clause-end c = let is = sym c.come.ensures.come ∙ c.in-Before.is in rw is (omega arith)

pub returns-in-During-clause-end : goal.returns-in-During-clause-end
returns-in-During-clause-end c = let is = sym c.come.ensures.come ∙ c.in-During.is in rw is (omega arith)
