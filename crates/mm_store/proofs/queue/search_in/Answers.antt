use Rattle.std.proofs.Common.{sym, arith}
use Rattle.mm_store.proofs.ContentLemmas.{first_in-past, first_in-found, first_in-late}
use Rattle.mm_store.proofs.queue.search_in.Goals as goal

pub returns-then-place-len : goal.returns-then-place-len
returns-then-place-len g c =
    sym (first_in-past c.args.from c.args.to c.args.after _ c.last_passed-passed.ensures _ c.first_place-place.result c.first_place-place.ensures.before (omega arith))

pub returns-then-stored-to : goal.returns-then-stored-to
returns-then-stored-to g c =
    sym (first_in-late c.args.from c.args.to c.args.after _ c.last_passed-passed.ensures _ c.first_place-place.result c.first_place-place.ensures.before c.at-stored.result.now c.at-stored.ensures.at c.requires c.if-stored-to.true)

pub returns : goal.returns
returns g c =
    sym (first_in-found c.args.from c.args.to c.args.after _ c.last_passed-passed.ensures _ c.first_place-place.result c.first_place-place.ensures.before c.at-stored.result.now c.at-stored.ensures.at c.first_place-place.ensures.from c.if-stored-to.false)
