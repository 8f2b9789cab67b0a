use Rattle.mm_keep.proofs.later.bound_from.Goals as goal

pub bound-requires : goal.bound-requires
bound-requires c = rw (
  c.deref.ensures.value,
  c.deref-2.ensures.value,
  c.in_ok-cut.ensures.stretches,
  c.in_ok-cut.ensures.counts,
) (c.requires.cuts c.args.first c.requires.from c.requires.until)
