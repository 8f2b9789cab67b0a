use Rattle.std.proofs.Common.{refl, arith}
use Rattle.std.specs.Int.{◌∣◌}
use Rattle.std.proofs.Math.Nat.{one-dvd}
use Rattle.std.proofs.lemmas.List.Elements.{All-nil}
use Rattle.mm_mission.specs.declared.parts.Rate.{Rate}
use Rattle.mm_overlap.proofs.BetterLemmas.{pass_next, pass_none}
use Rattle.mm_overlap.proofs.rates.common_time.Goals as goal

pub loop-row-init : goal.loop-row-init
loop-row-init c = record {
  common = All-nil (λ (r : Rate). r.micros ∣ 1);
  least = λ s common. one-dvd s;
  some = omega arith;
  within = omega arith;
}

pub loop-row-preserved : goal.loop-row-preserved
loop-row-preserved c =
    pass_next c.args.channels.now c.args.passes.now c.loop-row.row c.loop-row.time _ (omega arith) c.loop-row.invariant
    c.in-Some.next c.in-Some.ensures.next

pub returns-in-None-clause-none : goal.returns-in-None-clause-none
returns-in-None-clause-none c = (
  c.loop-row.row,
  refl,
  pass_none c.args.channels.now c.args.passes.now c.loop-row.row c.loop-row.time _ (omega arith) c.loop-row.invariant
      c.in-None.ensures.next,
)
