use Rattle.std.proofs.Common.{◌≡◌, ◌+◌, ◌-◌, ◌≤◌, ap, sym, ◌∙◌, arith, length}
use Rattle.mm_mission_sheet.specs.Sheets.{sent_then}
use Rattle.mm_mission_sheet.proofs.SheetLemmas.{sum_next}
use Rattle.mm_mission_sheet.proofs.sheet.Flown.sent.Goals as goal

pub loop-step-preserved : goal.loop-step-preserved
loop-step-preserved c =
    let next = sum_next (sent_then c.args.self.now.edges.now c.args.self.now.steps.now c.args.store c.args.span.now)
    c.loop-step.step (omega arith) in
    record {
      total = omega (arith, next, c.loop-step.invariant.total, c.sent_then.ensures);
      few = omega (arith, c.loop-step.invariant.few);
      within = omega arith;
    }
