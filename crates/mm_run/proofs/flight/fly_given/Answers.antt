use Rattle.mm_record.proofs.Supplying.{as_known}
use Rattle.mm_carry.specs.RunInput.{run_input}
use Rattle.mm_carry.specs.Ending.{IsCarriedOut, IsHalted}
use Rattle.mm_run.specs.Runs.{gives, sent, failed, IsFlown, IsNotFlown}
use Rattle.mm_run.proofs.flight.fly_given.Goals as goal

pub returns-in-Ok-clause-flown : goal.returns-in-Ok-clause-flown
unfolding IsFlown
returns-in-Ok-clause-flown g c = λ aim. rw (c.with_sheet.ensures, ← c.plan.ensures) (
  c.new-text.ensures.items,
  as_known gives c.args.sources.items c.in-Ok.ended.sources.items
      (λ given rest. IsCarriedOut sent failed (run_input c.args.problem.now c.plan.result.now 0 c.args.memory.now given)
      c.plan.result.now c.args.links.items c.carry_out.new.memory rest c.in-Ok.ended.links.items c.in-Ok.ended.report)
      c.in-Ok.ensures.carried_out,
)

pub returns-in-Err-clause-not_flown : goal.returns-in-Err-clause-not_flown
unfolding IsNotFlown
returns-in-Err-clause-not_flown g c = λ aim. rw (← c.plan.ensures) (
  c.new-text.ensures.items,
  as_known gives c.args.sources.items c.in-Err.halted.sources.items
      (λ given rest. IsHalted sent failed (run_input c.args.problem.now c.plan.result.now 0 c.args.memory.now given)
      c.plan.result.now c.args.sources.items c.args.links.items c.carry_out.new.memory c.in-Err.halted rest)
      c.in-Err.ensures.halted,
)
