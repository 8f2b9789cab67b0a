use Rattle.std.proofs.Common.{◌≡◌, ℕ, length, vec_len, sym, subst, ap, ◌∙◌, arith, rules}
use Rattle.mm_mission.specs.Mission.{MissionRows}
use Rattle.mm_mission.specs.Packets.{all_steps, sent_in, AreSentBy}
use Rattle.mm_mission.specs.Timeline.{amount}
use Rattle.mm_mission.proofs.Stepped.{all_length, all_sent_by}
use Rattle.mm_mission.proofs.packets.in_packets.Goals as goal

pub returns : goal.returns
returns c =
    let m = c.args.mission.now in
    let edges = c.args.edges.now in
    let x : ℕ → ℕ → ℕ = amount m c.args.amounts.now in
    let as_long : vec_len c.mission.inside.stores ≡ length c.mission.inside.stores.items = search rules in
    let many : length c.mission.inside.stores.items ≡ length m.stores =
    ap (λ (rows : MissionRows). length rows.stores) c.mission.view_is in
    let last : c.loop-store.store ≡ length m.stores = omega (arith, as_long, many, c.len-store-end.ensures) in
    let is : c.loop-store.steps.items ≡ all_steps m edges x = rw last at c.loop-store.invariant in
    record {
      steps = is;
      table = ap length is ∙ all_length m edges x;
      sent = subst (λ steps. AreSentBy m edges x (sent_in edges steps)) (sym is) (all_sent_by m edges x);
    }
