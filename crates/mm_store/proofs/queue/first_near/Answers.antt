use Rattle.std.proofs.Common.{refl, sym}
use Rattle.mm_store.proofs.ContentLemmas.{first_in-found, first_in-late}
use Rattle.mm_store.proofs.queue.first_near.Goals as goal

pub returns-then-stored-to : goal.returns-then-stored-to
returns-then-stored-to g c =
    let is = c.if-not-is_next_at.ensures refl in
    sym (first_in-late c.args.from c.args.to c.args.after _ c.last_passed-passed.ensures _ c.args.place.now is.before c.at-stored.result.now c.at-stored.ensures.at c.requires c.if-stored-to.true)

pub returns : goal.returns
returns g c =
    let is = c.if-not-is_next_at.ensures refl in
    sym (first_in-found c.args.from c.args.to c.args.after _ c.last_passed-passed.ensures _ c.args.place.now is.before c.at-stored.result.now c.at-stored.ensures.at is.from c.if-stored-to.false)
