use Rattle.std.proofs.Common.{length}
use Rattle.std.proofs.lemmas.List.FromFn.{length-map-range_with_len}
use Rattle.mm_problem.specs.Dumping.{row}
use Rattle.callers.specs.Remaining.{held_by}
use Rattle.callers.proofs.rest.rest_in.Goals as goal

pub rest-requires-clause-as_many : goal.rest-requires-clause-as_many
rest-requires-clause-as_many c =
    let q = c.args.problem.now in
    rw (c.deref.ensures.value, c.in_ok-held.ensures.held) (length-map-range_with_len (λ s. held_by c.args.memory.now (row q s).id) 0 (length q.rows))
