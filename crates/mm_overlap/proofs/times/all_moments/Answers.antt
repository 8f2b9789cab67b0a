use Rattle.std.proofs.Common.{◌≡◌, ℕ, ◌+◌, ◌<◌, ◌≤◌, ◌++◌, [], take, get_or, sym, ap, ◌∙◌, subst, inl, inr, arith}
use Rattle.std.specs.List.{flat_map}
use Rattle.std.proofs.lemmas.Bool.{cases_lt}
use Rattle.std.proofs.lemmas.List.{get_or_default, flat_map_more, take_more}
use Rattle.mm_mission.specs.Edges.{moments}
use Rattle.mm_mission.specs.Mission.{MissionRows, IsMission}
use Rattle.mm_overlap.proofs.times.all_moments.Goals as goal

pub loop-mission-preserved : goal.loop-mission-preserved
loop-mission-preserved c =
    let missions = c.args.missions.now in
    let n = c.loop-mission.mission-index in
    let own : MissionRows = c.mission-item.result in
    record {
      moments = c.in_ok-extend_from_slice.ensures.items
          ∙ ap (λ ys. c.loop-mission.times.items ++ ys)
          (c.deref.ensures.value ∙ c.in_ok-own.ensures.moments ∙ ap moments c.mission-item.is)
          ∙ ap (λ ys. ys ++ moments (get_or missions n own)) c.loop-mission.invariant.moments
          ∙ flat_map_more moments [] (take n missions) (get_or missions n own)
          ∙ ap (flat_map moments) (sym (take_more missions n own (omega arith)));
      missions = λ k d below. elim (cases_lt k n) [
        | inl before ↦ c.loop-mission.invariant.missions k d before
        | inr past ↦
            let here : n ≡ k = omega arith in
            let P : MissionRows → Type 0 = λ m. IsMission m in
            subst P (c.mission-item.is ∙ get_or_default missions n own d (omega arith)
            ∙ ap (λ j. get_or missions j d) here) c.in_ok-own.ensures.is_mission
      ];
    }
