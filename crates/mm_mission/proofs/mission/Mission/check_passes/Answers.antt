use Rattle.std.proofs.Common.{◌≡◌, ap, ◌∙◌, refl}
use Rattle.mm_mission.specs.Mission.{MissionRows}
use Rattle.mm_mission.proofs.mission.Mission.check_passes.Goals as goal

pub returns : goal.returns
returns c =
    let lasts : c.self.inside.lasts ≡ c.args.self.now.lasts = ap (λ (m : MissionRows). m.lasts) c.self.view_is in
    c.test_each_pass.ensures ∙ rw (lasts, ← c.in_ok-test.ensures) refl
