use Rattle.mm_shared.proofs.Words.{◌≡◌, ◌-◌, length, ap, arith, states_of, stores_in, common_steps, MAX_SEATS}
use Rattle.mm_shared.proofs.Fewer.{fewer_lists}
use Rattle.mm_shared.proofs.Opening.{states_are}
use Rattle.mm_shared.proofs.stores.settle.Goals as goal

pub returns-clause-logs : goal.returns-clause-logs
returns-clause-logs c k within =
    let workers = c.args.opened.now.workers.items in
    let states : states_of (stores_in c.read_states.new.opened) ≡ c.settle.new.ports.of.states =
    grind (arith, common_steps, states_are) in
    let none : length c.loop-port.opened.workers.items ≡ 0 = grind (arith, common_steps) in
    let log = rw (c.loop-port.invariant.rest, none) at (c.settle.ensures.logs k
    (omega (arith, within, ap length states))) in
    rw states (fewer_lists k workers (MAX_SEATS - length workers) _ _ log)
