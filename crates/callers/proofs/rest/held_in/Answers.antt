use Rattle.std.proofs.Common.{ℕ, sym, ap, map, ◌++◌, ◌∷◌, [], ◌∙◌, arith}
use Rattle.std.specs.List.{range_with_len}
use Rattle.std.proofs.lemmas.List.FromFn.{map-range_with_len_more}
use Rattle.mm_problem.specs.Dumping.{row}
use Rattle.callers.specs.Remaining.{held_by}
use Rattle.callers.proofs.rest.held_in.Goals as goal

pub loop-store-preserved : goal.loop-store-preserved
loop-store-preserved c =
    let each = λ (s : ℕ). held_by c.args.memory.now (row c.args.problem.now s).id in
    let store = c.loop-store.store in
    c.in_ok-push.ensures.items ∙ ap (λ front. front ++ c.held_by.result ∷ []) c.loop-store.invariant
    ∙ ap (λ n. map each (range_with_len 0 store) ++ n ∷ []) (c.held_by.ensures ∙ ap (held_by c.args.memory.now) c.id.ensures.id)
    ∙ sym (map-range_with_len_more each 0 store store (omega arith))
