use Rattle.mm_memory.proofs.Words.{length, subst, ap, arith, length_push, Applies, Parsed}
use Rattle.mm_memory.proofs.ApplyLemmas.{applies_one_more}
use Rattle.mm_memory.proofs.memory.Memory.answers.Goals as goal

pub loop-instruction-preserved : goal.loop-instruction-preserved
loop-instruction-preserved c =
    let l = c.loop-instruction in
    let one = subst (λ (i : Parsed). Applies i l.self (c.apply_one-outcome.result, c.apply_one-outcome.new.self))
    c.instruction-item.is c.apply_one-outcome.ensures in
    record {
      applied = applies_one_more c.args.instructions.now l.instruction-index _ c.args.self.now l.self
          c.apply_one-outcome.new.self l.each.items c.push_reserved.new.self.items c.of.result
          c.apply_one-outcome.result c.loop-instruction-test.true c.push_reserved.ensures.items c.of.ensures
          l.invariant.applied one;
      count = omega (arith, ap length c.push_reserved.ensures.items, length_push l.each.items c.of.result);
      room = omega arith;
    }
