use Rattle.mm_rest.proofs.HaltReads.{limited_is}
use Rattle.mm_rest.proofs.begun.begun.Goals as goal

pub returns-clause-problem : goal.returns-clause-problem
returns-clause-problem c =
    rw (
      c.deref-2.ensures.value,
      c.deref-3.ensures.value,
      c.deref-4.ensures.value,
      c.deref-5.ensures.value,
      c.in_ok-windows.ensures,
      c.in_ok-arrived.ensures,
      c.in_ok-by_step.ensures,
      c.deref.ensures.value,
      c.in_ok-limited.ensures,
      ← c.requires.stores,
      ← c.requires.limits,
    ) at (limited_is _ _ _ _ _ c.in_ok-whole.ensures _ _ _ c.in_ok-new.ensures)
