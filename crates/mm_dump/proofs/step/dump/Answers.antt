use Rattle.mm_dump.proofs.Words.{rules, map, nil_from_length}
use Rattle.mm_dump.proofs.Leaves.{nothing}
use Rattle.mm_dump.proofs.step.dump.Goals as goal

pub returns-then-is_empty-clause-carried : goal.returns-then-is_empty-clause-carried
returns-then-is_empty-clause-carried g c =
    nothing g.L.Link.sent g.L.Link.failed (map (λ h. h.id) c.args.stores.now.items) c.args.orders.now
    c.args.stores.now.items c.args.links.now c.requires.may
    (nil_from_length c.args.orders.now (search rules))
