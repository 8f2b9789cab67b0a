use Rattle.mm_cut.proofs.Counting.{few_stretches}
use Rattle.mm_cut.proofs.bounds.parts_of.Goals as goal

pub held_sum-requires-clause-few : goal.held_sum-requires-clause-few
held_sum-requires-clause-few c = few_stretches c.args.problem.now c.args.stretches.now c.stores.ensures.is_dumping c.requires.stretches

pub coming_sum-requires-clause-few : goal.coming_sum-requires-clause-few
coming_sum-requires-clause-few c = few_stretches c.args.problem.now c.args.stretches.now c.stores.ensures.is_dumping c.requires.stretches
