use Rattle.mm_memory.proofs.Words.{◌≡◌, length, take, drop, sym, ◌∙◌, passed}
use Rattle.mm_memory.proofs.RoutingLemmas.{after_none, tally_none, none_passed, after_passed, tally_passed}
use Rattle.mm_memory.proofs.recording.offer_each.Goals as goal

pub returns-then-first-stores : goal.returns-then-first-stores
returns-then-first-stores c =
    let none : passed c.args.rows.now c.args.stores.now ≡ length c.args.stores.now = cc in
    record {
      stores = sym (after_none c.args.now c.args.rows.now c.args.packet c.args.stores.now none);
      tally = c.nothing.ensures ∙ sym (tally_none c.args.now c.args.rows.now c.args.packet c.args.stores.now none);
      err = tt;
    }

pub offer_from_first-requires-clause-first : goal.offer_from_first-requires-clause-first
offer_from_first-requires-clause-first c =
    let led : c.split_at_mut-passed.result.1.now ≡ drop (passed c.args.rows.now c.args.stores.now) c.args.stores.now =
    cc in
    rw led (none_passed c.args.rows.now c.args.stores.now)

pub returns : goal.returns
returns c =
    let rows = c.args.rows.now in
    let stores = c.args.stores.now in
    let before : c.split_at_mut-passed.result.0.now ≡ take (passed rows stores) stores = cc in
    let led : c.split_at_mut-passed.result.1.now ≡ drop (passed rows stores) stores = cc in
    let after = rw led at c.in_ok-tally.ensures.stores in
    let told = rw led at c.in_ok-tally.ensures.tally in
    record {
      stores = rw (before, after) (sym (after_passed c.args.now rows c.args.packet stores));
      tally = told ∙ sym (tally_passed c.args.now rows c.args.packet stores);
      err = tt;
    }
