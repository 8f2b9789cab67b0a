use Rattle.mm_memory.proofs.Words.{◌≡◌, length, subst, ap, ◌∙◌, arith, Holdings, after_record, rows_for, passed}
use Rattle.mm_memory.specs.contracts.memory.Memory.{the_view}
use Rattle.mm_memory.proofs.RoutingLemmas.{recorded_none, told_none}
use Rattle.mm_memory.proofs.memory.Memory.record.Goals as goal

pub returns-then-passed-len : goal.returns-then-passed-len
returns-then-passed-len c =
    let m = c.self.inside in
    let rows = c.rows_for-rows.result.now in
    let rows_is = c.rows_for-rows.ensures ∙ ap (rows_for m.control) c.packet.ensures.same in
    let all : passed rows m.stores.items ≡ length m.stores.items =
    let lent = ap (passed rows) c.deref.ensures.value in
    omega (arith, lent, c.passed.ensures.passed, c.if-passed-len.true, c.len.ensures, m.stores.ok.0) in
    let Kept : Holdings → Type 0 = λ x. x ≡ after_record c.args.now c.args.packet.now x in
    record {
      after = subst Kept c.self.view_is (recorded_none c.args.now c.args.packet.now (the_view m) rows rows_is all);
      tally = rw (← c.self.view_is) (c.nothing.ensures
          ∙ told_none c.args.now c.args.packet.now (the_view m) rows rows_is all);
      err = tt;
    }
