use Rattle.std.proofs.Common.{◌+◌, take, sym, arith}
use Rattle.std.proofs.lemmas.Bool.{both_ways, false≢true}
use Rattle.std.proofs.lemmas.List.{length-take}
use Rattle.mm_cut.specs.Stretches.{AreStretches}
use Rattle.mm_cut.specs.FirstBad.{IsFirstBad}
use Rattle.mm_cut.proofs.Counting.{few_stretches}
use Rattle.mm_cut.proofs.Prefixes.{stretches_grow, IsFirstBad-not_good, first_bad_at, good_more}
use Rattle.mm_cut.proofs.stretches.first_bad.Goals as goal

-- a stretch that cannot stand after the earlier ones is the first bad one
bad : (c : goal.Then-not-is_stretch_after)
    → IsFirstBad (AreStretches c.args.problem.now) c.args.stretches.now (c.loop-place.place + 1)
bad c =
    first_bad_at (stretches_grow c.args.problem.now) c.args.stretches.now c.loop-place.place _ _ c.loop-place-test.true
    c.index-stretches-place.is c.loop-place.invariant
    (λ after. both_ways c.is_stretch_after.result c.if-not-is_stretch_after.true (c.is_stretch_after.ensures.1 after))

pub overflow_cast-result : goal.overflow_cast-result
overflow_cast-result c =
    let front = take c.loop-place.place c.args.stretches.now in
    let few = few_stretches c.args.problem.now front c.stores.ensures.is_dumping c.loop-place.invariant in
    omega (arith, few, length-take c.loop-place.place c.args.stretches.now)

pub returns-then-not-is_stretch_after-clause-none : goal.returns-then-not-is_stretch_after-clause-none
returns-then-not-is_stretch_after-clause-none c = (
  λ e. absurd (false≢true (sym e)),
  λ are. absurd (IsFirstBad-not_good (stretches_grow c.args.problem.now) _ _ (bad c) are),
)

pub returns-then-not-is_stretch_after-clause-bad : goal.returns-then-not-is_stretch_after-clause-bad
returns-then-not-is_stretch_after-clause-bad c = bad c

pub loop-place-preserved : goal.loop-place-preserved
loop-place-preserved c =
    good_more (stretches_grow c.args.problem.now) c.args.stretches.now c.loop-place.place _ _ c.loop-place-test.true
    c.index-stretches-place.is c.loop-place.invariant (c.is_stretch_after.ensures.0 c.if-not-is_stretch_after.false)
