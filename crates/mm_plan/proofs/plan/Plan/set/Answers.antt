use Rattle.mm_plan.proofs.Writes.{changes_amount}
use Rattle.mm_plan.proofs.plan.Plan.set.Goals as goal

pub returns : goal.returns
returns c =
    let place = rw (← c.self.view_is) at c.requires.place in
    rw (← c.self.view_is, c.place.ensures) (record { changed = changes_amount (record { stores = c.self.inside.stores; steps = c.self.inside.steps; amounts = c.self.inside.amounts.items }) c.args.store c.args.step c.args.blocks c.self.invariant place })
