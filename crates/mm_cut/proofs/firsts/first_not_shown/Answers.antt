use Rattle.std.proofs.Common.{◌+◌, refl, sym, arith}
use Rattle.std.proofs.lemmas.Bool.{both_ways, false≢true}
use Rattle.std.proofs.lemmas.List.{take_all, length-take-le}
use Rattle.mm_plan.specs.Table.{amount}
use Rattle.mm_cut.specs.Firsts.{ShowFirsts}
use Rattle.mm_cut.specs.FirstBad.{IsFirstBad}
use Rattle.mm_cut.proofs.Prefixes.{IsFirstBad-not_good, first_bad_at, good_more}
use Rattle.mm_cut.proofs.ShownFirsts.{firsts_grow}
use Rattle.mm_cut.proofs.firsts.first_not_shown.Goals as goal

-- a certificate that does not show its loss is the first bad one
bad : (c : goal.Then-not-shows_first)
    → IsFirstBad (ShowFirsts c.args.problem.now (amount c.args.plan.now)) c.args.firsts.now (c.loop-place.place + 1)
bad c =
    first_bad_at (firsts_grow c.args.problem.now (amount c.args.plan.now)) c.args.firsts.now c.loop-place.place _ _
    c.loop-place-test.true c.index-firsts-place.is c.loop-place.invariant (λ shows.
    both_ways c.shows_first.result c.if-not-shows_first.true (c.shows_first.ensures.1
    (rw (length-take-le c.loop-place.place c.args.firsts.now (omega arith)) at shows)))

pub returns-then-not-shows_first-clause-none : goal.returns-then-not-shows_first-clause-none
returns-then-not-shows_first-clause-none c = (
  λ e. absurd (false≢true (sym e)),
  λ show. absurd
      (IsFirstBad-not_good (firsts_grow c.args.problem.now (amount c.args.plan.now)) _ _ (bad c) show),
)

pub returns-then-not-shows_first-clause-bad : goal.returns-then-not-shows_first-clause-bad
returns-then-not-shows_first-clause-bad c = bad c

pub loop-place-preserved : goal.loop-place-preserved
loop-place-preserved c =
    good_more (firsts_grow c.args.problem.now (amount c.args.plan.now)) c.args.firsts.now c.loop-place.place _ _
    c.loop-place-test.true c.index-firsts-place.is c.loop-place.invariant
    (rw (length-take-le c.loop-place.place c.args.firsts.now (omega arith))
    (c.shows_first.ensures.0 c.if-not-shows_first.false))

pub returns-clause-none : goal.returns-clause-none
returns-clause-none c =
    let all = take_all c.loop-place.place c.args.firsts.now c.loop-place-test.false in
    (λ _. rw all at c.loop-place.invariant, λ _. refl)
