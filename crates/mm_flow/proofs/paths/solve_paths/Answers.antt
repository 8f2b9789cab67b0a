use Rattle.std.proofs.Common.{arith}
use Rattle.mm_flow.proofs.Working.{value_bound}
use Rattle.mm_flow.proofs.paths.solve_paths.Goals as goal

pub loop-tables-smaller : goal.loop-tables-smaller
loop-tables-smaller c = omega (arith, value_bound c.augment.new.self, c.augment.ensures.more, c.search_to_sink.ensures.value)
