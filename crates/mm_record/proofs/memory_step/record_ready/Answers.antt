use Rattle.mm_record.proofs.Words.{rules, ◌≡◌, map, inr, All, Some, IsState, cause_in, counters_of, held_by}
use Rattle.mm_record.proofs.Supplying.{comes_weaker}
use Rattle.mm_record.proofs.Memories.{named_of, held_as, not_caused, recorded_of, ended_of}
use Rattle.mm_record.proofs.memory_step.record_ready.Goals as goal

pub record-done-requires-clause-named : goal.record-done-requires-clause-named
record-done-requires-clause-named g c κs within = named_of c.args.stores.now.items c.requires.held.named

pub returns-in-None-clause-ok : goal.returns-in-None-clause-ok
returns-in-None-clause-ok g c =
    let step = c.args.context.now in
    let stores = c.args.stores.now.items in
    let done = not_caused step.step c.in-Ok-done.why (search rules) in
    let sound : All (λ h. IsState h.state) stores = search rules in
    let counters : c.in-Ok.before.items ≡ map (λ h. counters_of h.state) stores = search rules in
    let rows = rw c.deref-2.ensures.value at c.changes_of-recorded.ensures.rows in
    comes_weaker g.S.AnySource.leads g.S.AnySource.until c.args.sources.now c.record-done.new.sources _ _
    (λ given left. recorded_of step.step step.now (held_by step.control.now stores) _ given left c.in-Ok.before.items _
    c.any_order_loses_alike.ensures.leaves sound counters rows) (rw done at c.in-Ok-done.ensures.records)

pub returns-in-None-clause-held : goal.returns-in-None-clause-held
returns-in-None-clause-held g c = held_as _ _ c.record-done.ensures.labels c.requires.held

pub returns-in-Some-clause-err : goal.returns-in-Some-clause-err
returns-in-Some-clause-err g c =
    let step = c.args.context.now in
    let ended : cause_in step.step c.in-Ok-done.why ≡ Some c.in-Some.cause = search rules in
    inr (comes_weaker g.S.AnySource.leads g.S.AnySource.until c.args.sources.now c.record-done.new.sources _ _
    (λ given left records. ended_of step.step step.now (held_by step.control.now c.args.stores.now.items)
    c.record-done.new.stores.items given left c.in-Ok-done.why c.in-Some.cause ended records)
    c.in-Ok-done.ensures.records)

pub returns-in-Some-clause-held : goal.returns-in-Some-clause-held
returns-in-Some-clause-held g c = held_as _ _ c.record-done.ensures.labels c.requires.held
