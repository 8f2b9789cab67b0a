use Rattle.std.proofs.Common.{◌≡◌, ◌+◌, ◌-◌, ◌*◌, length, take}
use Rattle.mm_mission_plan.proofs.texts.amounts_of.Given as goal

abbrev pub invariant-steps : goal.invariant-steps
invariant-steps l = l.amounts.items ≡ take ((l.step - 1) * length l.problem.rows) l.plan.amounts

abbrev pub invariant-stores : goal.invariant-stores
invariant-stores l = l.amounts.items ≡ take ((l.step - 1) * length l.problem.rows + l.store) l.plan.amounts
