use Rattle.mm_record.proofs.Words.{rules, arith, common_steps, map_more, All-more, IsState}
use Rattle.mm_record.proofs.memory_step.all_counters.Goals as goal

pub loop-held-preserved : goal.loop-held-preserved
loop-held-preserved c = record {
  counters = grind (arith, common_steps, map_more);
  sound = All-more (λ h. IsState h.state) c.args.stores.now c.loop-held.held-index c.held-item.result (search rules)
      c.loop-held.invariant.sound (rw (← c.held-item.is) c.of.ensures.sound);
}
