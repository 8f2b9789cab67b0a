use Rattle.mm_carry.proofs.Words.{all_stay, recording_by, length-map, stores_in, Held, with_items_is, RunState}
use Rattle.mm_carry.proofs.Words.{stop_for, ◌∙◌, ap, arith}
use Rattle.mm_carry.proofs.Parts.{as_many, at_early, same_ids}
use Rattle.mm_carry.proofs.StoresReady.{may_dump, ready_recorded}
use Rattle.mm_carry.proofs.open_run.OpenRun.carry_step.Goals as goal

pub dump_open-broken-requires-clause-may : goal.dump_open-broken-requires-clause-may
dump_open-broken-requires-clause-may g c κs within =
    let inside = c.self.inside in
    let begun : RunState g.row.S.Denot g.row.L.Denot =
    record { stores = stores_in inside.stores; sources = inside.sources.items; links = inside.links.items } in
    let may = rw (← c.self.view_is) at c.requires.may in
    let sources = c.record_open-fault.new.sources in
    let records = (c.record_open-fault.ensures.records sources (all_stay g.S.AnySource.leads g.S.AnySource.until
    c.sources_may_stay.ensures.law sources)).1 in
    let mid = stores_in c.record_open-fault.new.stores in
    rw (c.orders_after.ensures, c.deref_mut-2.ensures.value) (may_dump g.L.Link.failed c.args.step.now.now
    c.record_open-fault.result c.args.orders.now begun mid may (as_many mid begun.stores records.labels)
    (ready_recorded (recording_by c.args.step.now begun.stores) begun.stores mid c.record_open-fault.result _ _
    (length-map begun.stores (λ (h : Held). h.id)) may.ready records))

pub returns-clause-step : goal.returns-clause-step
returns-clause-step g c =
    let inside = c.self.inside in
    let begun = stores_in inside.stores in
    let mid = stores_in c.record_open-fault.new.stores in
    let fault = c.record_open-fault.result in
    let dumped = c.dump_open-broken.result in
    let sources = with_items_is inside.sources c.record_open-fault.new.sources
    (omega (arith, c.record_open-fault.auto.sources, c.deref_mut.ensures.len, inside.sources.ok.0)) in
    let links = with_items_is inside.links c.dump_open-broken.new.links
    (omega (arith, c.dump_open-broken.auto.links, c.deref_mut-2.ensures.len, inside.links.ok.0)) in
    let records = rw c.deref_mut.ensures.value at c.record_open-fault.ensures.records in
    let ids = same_ids mid begun c.record_open-fault.ensures.labels in
    let carried = rw (c.deref_mut-2.ensures.value, c.orders_after.ensures, ids) at c.dump_open-broken.ensures.carried in
    let idle = rw (c.deref_mut-2.ensures.value, c.orders_after.ensures) at c.dump_open-broken.ensures.without_orders in
    let stop = c.stop_for.ensures ∙ ap (λ cause. stop_for cause dumped.spent) c.cause_of.ensures in
    rw (← c.self.view_is, sources, links) (λ lasts lead.
    let one = records lasts lead in (
      one.0,
      record {
        fault = fault;
        mid = mid;
        records = one.1;
        broken = dumped.broken;
        spent = dumped.spent;
        dumps = carried;
        labels = c.dump_open-broken.ensures.stores.labels ∙ c.record_open-fault.ensures.labels;
        sound = c.dump_open-broken.ensures.stores.sound;
        early = at_early fault c.args.orders.now (λ none.
            let nothing = idle none in
            (ap (λ d. d.broken) nothing.0, ap (λ d. d.spent) nothing.0, nothing.1, nothing.2));
        stop_is = stop;
      },
    ))
