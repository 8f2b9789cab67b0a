use Rattle.std.proofs.Common.{◌+◌, ◌∙◌, sym, ap, cond, arith}
use Rattle.mm_flow.specs.Solution.{side_of}
use Rattle.mm_planner.specs.Runs.{goes_on}
use Rattle.mm_planner.proofs.RunLists.{runs_more, first_step_next}
use Rattle.mm_planner.proofs.runs.add_runs.Goals as goal

pub loop-step-preserved : goal.loop-step-preserved
loop-step-preserved c =
    let side = side_of c.args.side.now in
    let s = c.args.store in
    let t = c.loop-step.step in
    record {
      first = c.next_first-first.ensures ∙ ap (λ k. cond (goes_on side s t) k (t + 1)) c.loop-step.invariant.first ∙ sym (first_step_next side s t);
      so_far = runs_more c.args.problem.now side s t c.args.stretches.now.items c.loop-step.stretches.items c.add_run.new.stretches.items _ (omega arith) c.loop-step.invariant.so_far (cc) c.in_ok-add_run.ensures.added;
    }
