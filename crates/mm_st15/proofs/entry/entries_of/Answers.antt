use Rattle.mm_st15.specs.Layout.{octets_of, Fits}
use Rattle.mm_st15.proofs.EntryLemmas.{is_some_at, has_more, reads_more}
use Rattle.mm_st15.proofs.entry.entries_of.Goals as goal

pub unwrap-entry-requires : goal.unwrap-entry-requires
unwrap-entry-requires g c =
    is_some_at c.read.result _ _ (has_more c.args.count c.loop.counter g.E.Entry.WIDTH _ c.loop-test.true c.loop.invariant.left) c.read.ensures.none

pub loop-preserved : goal.loop-preserved
loop-preserved g c =
    let spelled = rw c.unwrap-entry.ensures at c.read.ensures.spelled in
    let len = rw c.unwrap-entry.ensures at c.read.ensures.len in
    let fit = rw c.unwrap-entry.ensures at c.read.ensures.fits in
    rw c.in_ok-push.ensures.items (
    reads_more (octets_of g.E.Entry.layout) (Fits g.E.Entry.layout) g.E.Entry.WIDTH _ _ _ c.args.count c.loop.counter c.unwrap-entry.result.0 c.unwrap-entry.result.1.now
    c.loop-test.true c.loop.invariant spelled len fit)
