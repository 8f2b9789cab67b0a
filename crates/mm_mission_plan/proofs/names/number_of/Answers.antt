use Rattle.std.proofs.Common.{◌∙◌, ◌+◌, ◌<◌, ap, sym, arith, length}
use Rattle.std.specs.List.{count_by, enumerate_from}
use Rattle.std.proofs.lemmas.List.{take_all}
use Rattle.std.proofs.lemmas.List.FromFn.{length-enumerate_from}
use Rattle.mm_mission_plan.specs.Names.{is_counted, number_of}
use Rattle.mm_mission_plan.proofs.Named.{counted, not_counted}
use Rattle.mm_mission_plan.proofs.names.number_of.Goals as goal
use Rattle.mm_mission_plan.proofs.names.number_of.Goals.{then-is_counted, else-is_counted}

pub passes-preserved : goal.passes-preserved
passes-preserved c =
    let passes = c.args.passes.now in
    let other = c.index-passes-other_row.result in
    let below : c.passes.other_row < length passes = omega arith in
    elim c.if-is_counted.branch [
      | then-is_counted w ↦
          w.number-is ∙ ap (λ n. n + 1) c.passes.invariant
          ∙ sym (counted passes c.args.row c.args.pass.now c.passes.other_row other below c.index-passes-other_row.is
          (sym c.is_counted.ensures ∙ w.if-is_counted.true))
      | else-is_counted w ↦
          w.number-is ∙ c.passes.invariant
          ∙ sym (not_counted passes c.args.row c.args.pass.now c.passes.other_row other below
          c.index-passes-other_row.is (sym c.is_counted.ensures ∙ w.if-is_counted.false))
    ]

pub returns : goal.returns
unfolding number_of
returns c =
    let passes = c.args.passes.now in
    c.passes.invariant ∙ ap (count_by (is_counted c.args.row c.args.pass.now))
    (take_all c.passes.other_row (enumerate_from 0 passes) (omega (arith, length-enumerate_from 0 passes)))
