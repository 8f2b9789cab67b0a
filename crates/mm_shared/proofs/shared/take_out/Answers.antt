use Rattle.mm_shared.proofs.Words.{rules, ◌≡◌, ◌<◌, length, take, get_or, arith, take_more, IsState, Held, All-push}
use Rattle.mm_shared.proofs.Words.{common_steps, slots_items, slots_filled, slots_counts}
use Rattle.mm_shared.proofs.Lists.{at_get}
use Rattle.mm_shared.proofs.Opening.{one_more, under}
use Rattle.mm_shared.proofs.shared.take_out.Goals as goal

pub loop-k-preserved : goal.loop-k-preserved
loop-k-preserved c =
    let k = c.loop-k.k in
    let before = c.loop-k.invariant in
    let labels = c.args.labels.now in
    let all = slots_items c.args.closed.slots in
    let state = c.take-state.result in
    let label = c.index-labels-k.result in
    let filled = slots_filled c.loop-k.closed.slots in
    let in_labels : k < length labels = omega (arith, c.loop-k-test.true, c.loop-k.auto.k-end) in
    let in_filled : k < length filled = omega (arith, before.many, (slots_counts c.loop-k.closed.slots).1, in_labels) in
    let in_all : k < length all = omega (arith, (slots_counts c.args.closed.slots).0, c.requires.as_many, in_labels) in
    let there : get_or all k state ≡ state = at_get all k state state (rw before.items at c.take-state.ensures.value) in
    record {
      items = grind (arith, common_steps);
      many = grind (arith, common_steps);
      full = λ j from within. grind (arith, common_steps, before.full j (omega arith) within);
      taken = λ j upto. grind (arith, common_steps, before.taken j);
      count = grind (arith, common_steps);
      same =
          let labelled = take_more labels k label in_labels in
          let stated = take_more all k state in_all in
          let more = one_more (take k labels) (take k all) label state (grind (arith, common_steps)) in
          cc;
      sound = rw c.push_reserved.ensures.items
          (All-push (λ (h : Held). IsState h.state) c.loop-k.stores.items (under label state) before.sound
          (let is : IsState state = search rules in is));
      room = grind (arith, common_steps);
    }
