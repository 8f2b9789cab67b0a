use Rattle.std.proofs.Common.{◌≡◌, ◌+◌, ◌-◌, ◌≤◌, ap, sym, ◌∙◌, arith, length}
use Rattle.mm_mission_sheet.specs.Sheets.{lost_then}
use Rattle.mm_mission_sheet.proofs.SheetLemmas.{sum_next, lost_few}
use Rattle.mm_mission_sheet.proofs.sheet.Flown.lost.Goals as goal

pub loop-step-preserved : goal.loop-step-preserved
loop-step-preserved c =
    let next = sum_next (lost_then c.args.self.now.edges.now c.args.self.now.steps.now c.args.store c.args.span.now)
    c.loop-step.step (omega arith) in
    record {
      total = omega (arith, next, c.loop-step.invariant.total, c.lost_then-total.ensures);
      within = omega arith;
    }

pub overflow_add-total : goal.overflow_add-total
overflow_add-total c =
    let few = lost_few c.args.self.now.edges.now c.args.self.now.steps.now c.args.store c.args.span.now c.loop-step.step
    (omega arith) (omega arith) in
    let all = c.args.self.now.flown.few_lost c.args.store c.requires in
    omega (arith, few, all, c.loop-step.invariant.total, c.lost_then-total.ensures)
