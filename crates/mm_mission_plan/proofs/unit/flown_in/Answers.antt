use Rattle.std.proofs.Common.{◌∙◌, ◌+◌, ◌<◌, ap, subst, sym, length}
use Rattle.mm_utc.specs.declared.moment.TheConstants.{MOMENTS}
use Rattle.mm_mission.specs.Mission.{MissionRows}
use Rattle.mm_mission_exact.specs.Exact.{ExactRows, seen}
use Rattle.mm_mission_plan.specs.Units.{mission_of}
use Rattle.mm_mission_plan.proofs.Stages.{mission_is, flown_is}
use Rattle.mm_mission_plan.proofs.unit.flown_in.Goals as goal

pub invariant_of-result : goal.invariant_of-result
invariant_of-result c =
    let e : ExactRows = seen c.in_ok-exact.exact in
    let same = mission_is (mission_of e) c.in_ok-mission.mission (sym c.in_ok-mission.ensures) in
    record {
      placed = c.in_ok-exact.ensures.placed ∙ ap (λ (n : MissionRows). length n.passes) same;
      in_years = subst (λ (n : MissionRows). e.begin + n.lasts < MOMENTS) same c.in_ok-exact.ensures.in_years;
    }

pub returns : goal.returns
returns c =
    flown_is c.args.rows.now c.args.unit (seen c.in_ok-exact.exact) c.in_ok-mission.mission c.in_ok-exact.ensures.exact
    (sym c.in_ok-mission.ensures)
