use Rattle.std.proofs.Common.{◌+◌, take, refl, sym, arith}
use Rattle.std.proofs.lemmas.Bool.{both_ways, false≢true}
use Rattle.std.proofs.lemmas.List.{length-take}
use Rattle.mm_cut.specs.Counts.{AreCounted}
use Rattle.mm_cut.specs.FirstBad.{IsFirstBad}
use Rattle.mm_cut.proofs.Counting.{length-counted}
use Rattle.mm_cut.proofs.Prefixes.{counts_grow, IsFirstBad-not_good, first_bad_at, good_more}
use Rattle.mm_cut.proofs.counts.first_bad_count.Goals as goal

-- a step that cannot stand after the earlier ones is the first bad one
bad : (c : goal.Then-not-is_counted_after)
    → IsFirstBad (AreCounted c.args.problem.now c.args.stretches.now) c.args.counts.now (c.loop-place.place + 1)
bad c =
    first_bad_at (counts_grow c.args.problem.now c.args.stretches.now) c.args.counts.now c.loop-place.place _ 0
    c.loop-place-test.true refl c.loop-place.invariant
    (λ after. both_ways c.is_counted_after.result c.if-not-is_counted_after.true (c.is_counted_after.ensures.1 after))

pub overflow_cast-result : goal.overflow_cast-result
overflow_cast-result c =
    let front = take c.loop-place.place c.args.counts.now in
    let few = length-counted c.args.problem.now c.args.stretches.now front c.requires c.loop-place.invariant in
    omega (arith, c.steps.ensures.is_dumping.steps.at_most, few, length-take c.loop-place.place c.args.counts.now)

pub returns-then-not-is_counted_after-clause-none : goal.returns-then-not-is_counted_after-clause-none
returns-then-not-is_counted_after-clause-none c = (
  λ e. absurd (false≢true (sym e)),
  λ are. absurd (IsFirstBad-not_good (counts_grow c.args.problem.now c.args.stretches.now) _ _ (bad c) are),
)

pub returns-then-not-is_counted_after-clause-bad : goal.returns-then-not-is_counted_after-clause-bad
returns-then-not-is_counted_after-clause-bad c = bad c

pub loop-place-preserved : goal.loop-place-preserved
loop-place-preserved c =
    good_more (counts_grow c.args.problem.now c.args.stretches.now) c.args.counts.now c.loop-place.place _ 0
    c.loop-place-test.true refl c.loop-place.invariant (c.is_counted_after.ensures.0 c.if-not-is_counted_after.false)
