use Rattle.mm_record.proofs.Words.{rules, ◌≡◌, None, vec_len, arith, with_items_is, cause_before, held_by}
use Rattle.mm_record.proofs.Before.{takes_of}
use Rattle.mm_record.proofs.memory_step.record_stores.Goals as goal

pub returns-in-Err-clause-none_refused : goal.returns-in-Err-clause-none_refused
returns-in-Err-clause-none_refused g c =
    let memory = held_by c.args.control.now c.args.stores.now.items in
    let left = c.record_ready.new.sources in
    let none : cause_before memory.stores c.args.base (vec_len c.args.sources) ≡ None = search rules in
    let written = with_items_is c.args.sources left
    (omega (arith, c.record_ready.auto.sources, c.deref_mut.ensures.len, c.args.sources.ok.0)) in
    rw (written, ← c.deref_mut.ensures.value) (λ lasts lead.
    let one = c.in-Err.ensures.none_refused lasts lead in
    let takes = takes_of c.args.step c.args.base (vec_len c.args.sources) memory _ (omega arith) none in
    (one.0, λ limits. one.1 (takes limits)))

pub returns-in-Err-clause-err : goal.returns-in-Err-clause-err
returns-in-Err-clause-err g c = λ none.
    let written = with_items_is c.args.sources c.record_ready.new.sources
    (omega (arith, c.record_ready.auto.sources, c.deref_mut.ensures.len, c.args.sources.ok.0)) in
    rw (written, ← c.deref_mut.ensures.value) c.in-Err.ensures.err
