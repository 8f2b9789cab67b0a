use Rattle.mm_st15.specs.Layout.{octets_of, Fits}
use Rattle.mm_st15.proofs.EntryLemmas.{HasRead}
use Rattle.mm_st15.proofs.entry.entries_of.Given as goal

abbrev pub invariant-loop : goal.invariant-loop
invariant-loop g l = HasRead (octets_of g.E.Entry.layout) (Fits g.E.Entry.layout) g.E.Entry.WIDTH l.octets l.entries.items l.rest l.count l.counter
