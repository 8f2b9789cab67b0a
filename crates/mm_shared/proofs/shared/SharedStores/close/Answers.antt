use Rattle.mm_shared.proofs.Words.{◌≡◌, List, [], map, arith, Entry, calls_on, states_of, All-map, common_steps}
use Rattle.mm_shared.proofs.Words.{slots_items}
use Rattle.mm_shared.proofs.Ending.{untouched}
use Rattle.mm_shared.proofs.Kept.{closes_kept}
use Rattle.mm_shared.proofs.Opening.{states_are}
use Rattle.mm_shared.proofs.shared.SharedStores.close.Goals as goal

pub returns-clause-logs : goal.returns-clause-logs
returns-clause-logs c k within =
    let states : states_of c.take_out.new.stores.items ≡ slots_items c.close_with.result.slots =
    grind (arith, common_steps, states_are) in
    rw (states, ← c.ports.view_is)
    (closes_kept _ _ _ _ _ _ c.close_with.ensures.values.2 c.ports.invariant.0.none (grind (arith, common_steps))
    (grind (arith, common_steps)) k
    (grind (arith, common_steps, states)))

pub returns-clause-untouched : goal.returns-clause-untouched
returns-clause-untouched c k within none =
    untouched (map (calls_on k) c.args.ports.lists) _ _
    (returns-clause-logs c k (grind (arith, common_steps, states_are)))
    (All-map (λ (list : List Entry). list ≡ []) (calls_on k) c.args.ports.lists none)
