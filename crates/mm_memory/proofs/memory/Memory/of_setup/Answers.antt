use Rattle.mm_memory.proofs.HoldingLemmas.{AreHeld-opened}
use Rattle.mm_memory.proofs.memory.Memory.of_setup.Goals as goal

pub invariant_of-result : goal.invariant_of-result
invariant_of-result c =
    rw (c.in_ok-stores.ensures, c.stores.ensures.rows) (AreHeld-opened _ c.stores.ensures.is_setup.stores)
