use Rattle.mm_record.proofs.Words.{rules, ◌≡◌, ℕ, length, refl, sym, ap, ◌∙◌, arith, length-map, with_items_is, Held}
use Rattle.mm_record.proofs.Words.{all_ends, stores_in, Origin, ids_open}
use Rattle.std.specs.Vec.{with_items}
use Rattle.mm_shared.proofs.StillOpen.{still_open}
use Rattle.mm_record.proofs.Steps.{comes_of}
use Rattle.mm_record.proofs.step.record_open.Goals as goal

pub record_all-why-requires-clause-may : goal.record_all-why-requires-clause-may
record_all-why-requires-clause-may g c κs within =
    let it = c.seat_workers.new.opened in
    let new = c.seat_workers.ensures.new in
    let kept = new.are_open.kept in
    let same : length it.workers.items ≡ length c.args.sources.now = search rules in
    let named = rw (← ids_open it.labels.items (stores_in c.args.stores.now) new.labels) at c.requires.named in
    rw (c.deref.ensures.value, c.deref_mut.ensures.value) (record {
      same = same;
      may = λ i d inside.
          let of_them = ap (λ (end : Origin × ℕ). end.0.table) (new.are_open.workers i d inside) ∙ kept.of in
          record { named = named; as_many = sym kept.many; of_them = of_them };
      fresh = new.fresh;
    })

pub settle-requires : goal.settle-requires
settle-requires g c =
    let it = c.seat_workers.new.opened in
    let new = c.seat_workers.ensures.new in
    let written = with_items_is it.workers c.record_all-why.new.workers
    (omega (arith, c.record_all-why.auto.workers, c.deref_mut.ensures.len, it.workers.ok.0)) in
    let ends : all_ends (with_items it.workers c.record_all-why.new.workers).items ≡ all_ends it.workers.items =
    ap all_ends written ∙ c.record_all-why.ensures.offered.ends ∙ ap all_ends c.deref_mut.ensures.value in
    record { opened = still_open it (with_items it.workers c.record_all-why.new.workers) new.are_open refl ends }

pub returns-clause-records : goal.returns-clause-records
returns-clause-records g c =
    let it = c.seat_workers.new.opened in
    let new = c.seat_workers.ensures.new in
    let before = stores_in c.args.stores.now in
    let written = with_items_is it.workers c.record_all-why.new.workers
    (omega (arith, c.record_all-why.auto.workers, c.deref_mut.ensures.len, it.workers.ok.0)) in
    let ids = ids_open it.labels.items before new.labels in
    rw (← ids) (comes_of g.S.AnySource.leads g.S.AnySource.until _ c.args.sources.now c.record_all-why.new.sources _ _
    c.record_all-why.result before (stores_in c.settle.new.opened)
    (rw c.deref.ensures.value at c.record_all-why.ensures.offered) (rw (written, new.states) at c.settle.ensures.logs)
    (ap length ids ∙ length-map before (λ (h : Held). h.id)) (c.settle.ensures.labels ∙ new.labels)
    c.settle.ensures.sound c.requires.many)
