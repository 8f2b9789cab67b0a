use Rattle.std.proofs.Common.{◌∙◌, slice_index, ap, arith}
use Rattle.mm_planner.proofs.TakenAmounts.{taken_within}
use Rattle.mm_planner.proofs.taken.taken.Goals as goal

pub overflow_cast-result : goal.overflow_cast-result
overflow_cast-result c =
    let flow = c.args.solved.now.flow.items in
    let within = taken_within c.args.problem.now c.args.solved.now c.take_place-place.ensures.is_dumping c.requires.solved c.args.step c.args.store c.requires.step c.requires.store in
    omega (arith, within, c.flow_at.ensures ∙ ap (λ xs. slice_index xs c.take_place-place.result) c.as_slice-flow.ensures.value ∙ ap (slice_index flow) c.take_place-place.ensures.place)

pub returns-clause-most : goal.returns-clause-most
returns-clause-most c =
    let flow = c.args.solved.now.flow.items in
    let within = taken_within c.args.problem.now c.args.solved.now c.take_place-place.ensures.is_dumping c.requires.solved c.args.step c.args.store c.requires.step c.requires.store in
    omega (arith, within, c.flow_at.ensures ∙ ap (λ xs. slice_index xs c.take_place-place.result) c.as_slice-flow.ensures.value ∙ ap (slice_index flow) c.take_place-place.ensures.place)
