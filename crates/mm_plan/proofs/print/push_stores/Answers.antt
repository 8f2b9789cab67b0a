use Rattle.mm_plan.proofs.Prints.{ended_stores}
use Rattle.mm_plan.proofs.print.push_stores.Goals as goal

pub returns : goal.returns
returns c = cc (ended_stores c.args.text.now.items c.args.ids.now, c.in_ok-extend_from_slice.ensures.items, c.in_ok-push_ids.ensures, c.in_ok-push.ensures.items)
