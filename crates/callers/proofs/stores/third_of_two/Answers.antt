-- The three puts into an empty bounded store of two blocks compute.
use Rattle.std.proofs.Common.{refl}
use Rattle.callers.proofs.stores.third_of_two.Goals as goal

pub returns-clause-bounded : goal.returns-clause-bounded
returns-clause-bounded c =
    λ bounded. rw (c.put-3.ensures.answer, c.put-2.ensures.after, c.put.ensures.after, c.in_ok-store.ensures.empty, bounded) refl
