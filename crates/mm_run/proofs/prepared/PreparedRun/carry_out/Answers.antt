use Rattle.std.proofs.Common.{◌≡◌, ◌∙◌, ap, inl, inr, ℕ, List, length}
use Rattle.std.specs.Prelude.{Option}
use Rattle.mm_record.proofs.Supplying.{as_known}
use Rattle.mm_carry.specs.Course.{AreWithinLimits}
use Rattle.mm_carry.specs.Step.{NeverRefused}
use Rattle.mm_run.specs.declared.prepared.PreparedRun.{PreparedRun}
use Rattle.mm_run.specs.declared.printed.Given.{Given}
use Rattle.mm_run.specs.declared.printed.Printed.{Printed}
use Rattle.mm_run.specs.Prepared.{IsPrepared}
use Rattle.mm_run.specs.Runs.{PrintsRun, RunEnds, gives, lost_in}
use Rattle.mm_planner.specs.declared.goal.Goal.{Goal}
use Rattle.mm_run.proofs.prepared.PreparedRun.carry_out.Goals as goals

-- what is printed of a run that was prepared, by how it ended
prints : {goal : Goal} {plan : Option (List ℕ)} {setup forecast sources links : List ℕ} (prepared : PreparedRun)
    (p : Printed)
    → (run : IsPrepared goal plan setup forecast sources links prepared)
    → RunEnds goal run.sheet prepared.problem prepared.memory prepared.sources.items prepared.links.items p
    → p.given.unstored ≡ prepared.printed.given.unstored
    → p.given.lost_before ≡ prepared.printed.given.lost_before
    → PrintsRun goal plan setup forecast sources links p
prints prepared p run ends unstored lost = record {
  problem = prepared.problem;
  memory = run.memory;
  sheet = run.sheet;
  start_says = run.start_says;
  opening = run.opening;
  sources = prepared.sources.items;
  links = prepared.links.items;
  sides_say = run.sides_say;
  ended = rw (← run.opened) ends;
  counts = rw unstored run.counts;
  untaken_told = λ table. rw (unstored, ← run.opened) (run.untaken_told table);
  lost_before = lost ∙ run.lost_before ∙ ap lost_in run.opened;
}

pub returns-in-Ok-clause-runs : goals.returns-in-Ok-clause-runs
returns-in-Ok-clause-runs g c = λ goal plan setup forecast sources links run.
    prints c.args.self c.whole.result run (inl (record {
      left = c.fly_plan.new.memory;
      flown = c.in-Ok.field-0;
      is_flown = c.in-Ok.ensures.flown goal run.sheet run.plan_is;
      tells = c.whole.ensures.tells;
    }))
    (ap (λ (given : Given). given.unstored) c.whole.ensures.given)
    (ap (λ (given : Given). given.lost_before) c.whole.ensures.given)

pub returns-in-Err-clause-runs : goals.returns-in-Err-clause-runs
returns-in-Err-clause-runs g c = λ goal plan setup forecast sources links run.
    prints c.args.self c.stopped.result run (inr (record {
      left = c.fly_plan.new.memory;
      ended = c.in-Err.field-0;
      not_flown = c.in-Err.ensures.not_flown goal run.sheet run.plan_is;
      never_refused = as_known gives c.args.self.sources.items c.in-Err.field-0.halted.sources.items
          (λ given rest. AreWithinLimits (length c.args.self.problem.windows) c.args.self.memory.stores given
          → NeverRefused c.in-Err.field-0.halted.cause)
          c.in-Err.ensures.far c.args.self.within;
      tells = c.stopped.ensures.tells;
      left_is = c.stopped.ensures.left;
    }))
    (ap (λ (given : Given). given.unstored) c.stopped.ensures.given)
    (ap (λ (given : Given). given.lost_before) c.stopped.ensures.given)
