use Rattle.std.proofs.Common.{ℕ, ◌-◌, ◌≤◌, [], ◌∷◌, ◌++◌, sym, ap, ◌∙◌, append_assoc, arith}
use Rattle.std.specs.Prelude.{map}
use Rattle.std.specs.List.{range_with_len}
use Rattle.std.proofs.lemmas.List.{append-nil}
use Rattle.mm_mission.specs.declared.packets.PacketStep.{PacketStep}
use Rattle.mm_mission.specs.declared.parts.Store.{Store}
use Rattle.mm_mission.specs.Packets.{step_in}
use Rattle.mm_mission.specs.Timeline.{amount}
use Rattle.mm_mission.proofs.Stepped.{next_step, first_held, next_held}
use Rattle.mm_mission.proofs.packets.push_steps.Goals as goal

pub loop-step-init : goal.loop-step-init
loop-step-init c =
    let m = c.args.mission.now in
    record {
      steps = sym (append-nil c.args.steps.now.items);
      held = ap (λ (s : Store). s.start) c.store_at-held.ensures.store
          ∙ sym (first_held m c.args.edges.now (amount m c.args.amounts.now) c.args.store);
      within = omega arith;
    }

pub loop-step-preserved : goal.loop-step-preserved
loop-step-preserved c =
    let m = c.args.mission.now in
    let x : ℕ → ℕ → ℕ = amount m c.args.amounts.now in
    let f : ℕ → PacketStep = step_in m c.args.edges.now x c.args.store in
    let t = c.loop-step.step in
    let old = c.args.steps.now.items in
    let first : 1 ≤ t = omega arith in
    record {
      steps = c.in_ok-push.ensures.items ∙ ap (λ e. c.loop-step.steps.items ++ e ∷ []) c.step_in-next.ensures
          ∙ ap (λ ys. ys ++ f t ∷ []) c.loop-step.invariant.steps
          ∙ append_assoc old (map f (range_with_len 1 (t - 1))) (f t ∷ [])
          ∙ ap (λ ys. old ++ ys) (sym (next_step f t first));
      held = ap (λ (e : PacketStep). e.held) c.step_in-next.ensures
          ∙ sym (next_held m c.args.edges.now x c.args.store t first);
      within = omega arith;
    }
