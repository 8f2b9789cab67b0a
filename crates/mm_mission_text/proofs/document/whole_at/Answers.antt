use Rattle.std.proofs.Common.{None, ap}
use Rattle.std.proofs.lemmas.Result.{err_from_is_err_and}
use Rattle.mm_base.specs.Reading.{◌>>=◌}
use Rattle.mm_mission_text.specs.Cells.{told_as}
use Rattle.mm_mission_text.specs.Missions.{whole_at, whole_in}
use Rattle.mm_mission_text.specs.declared.mission_fault.MissionFault.TheVariants.{In}
use Rattle.mm_mission_text.proofs.document.whole_at.Goals as goal

pub returns-in_err-cells : goal.returns-in_err-cells
unfolding whole_at
returns-in_err-cells c =
    let p = err_from_is_err_and c.from_residual.result c.from_residual.ensures.1 in
    rw (p.1, p.2) (λ other. ap (λ line. line >>= λ row. told_as (In None) (whole_in row)) (c.in_err-cells.ensures other))
