use Rattle.mm_memory.proofs.Words.{◌≡◌, true, List, length, sym, subst, ap, ◌∙◌, arith, ◌==◌, Held, Holdings, AreHeld}
use Rattle.mm_memory.proofs.Words.{ids_of, after_offers, after_record, tally_over, rows_for, packet_along}
use Rattle.mm_memory.proofs.Words.{AreHeld-same_ids}
use Rattle.mm_memory.specs.contracts.memory.Memory.{the_view}
use Rattle.mm_memory.proofs.RecordLemmas.{all_written, ids_kept}
use Rattle.mm_memory.proofs.RoutingLemmas.{empty_leads, recorded_none, told_none, recorded_along, told_along}
use Rattle.mm_memory.proofs.memory.Memory.record_owned.Goals as goal

pub returns-then-is_empty : goal.returns-then-is_empty
returns-then-is_empty c =
    let m = the_view c.self.inside in
    let rows = c.rows_for-rows.result.now in
    let rows_is = c.rows_for-rows.ensures ∙ ap (rows_for c.self.inside.control) c.packet.ensures.same in
    let empty : (length rows == 0) ≡ true = cc in
    let none = empty_leads rows m.stores empty in
    let Kept : Holdings → Type 0 = λ x. x ≡ after_record c.args.now c.args.packet x in
    record {
      after = subst Kept c.self.view_is (recorded_none c.args.now c.args.packet m rows rows_is none);
      tally = rw (← c.self.view_is) (c.nothing.ensures ∙ told_none c.args.now c.args.packet m rows rows_is none);
      err = tt;
    }

pub invariant_of-self-2 : goal.invariant_of-self-2
invariant_of-self-2 c =
    let m = c.self.inside in
    let packet = packet_along c.rows_for-rows.result.now c.args.packet in
    let new = c.offer_each.new.stores in
    let lent = c.deref_mut.ensures.value in
    let ids = ap ids_of c.in_ok-tally.ensures.stores ∙ ids_kept c.args.now packet c.deref_mut.result.now
    ∙ ap ids_of lent in
    let long : m.stores.len ≡ length new = omega (arith, m.stores.ok.0, c.offer_each.auto.stores, ap length lent) in
    subst AreHeld (sym (all_written m.stores.len new m.stores.items long))
    (AreHeld-same_ids m.stores.items new (sym ids) c.self.invariant)

pub returns : goal.returns
returns c =
    let m = c.self.inside in
    let rows = c.rows_for-rows.result.now in
    let rows_is = c.rows_for-rows.ensures ∙ ap (rows_for m.control) c.packet.ensures.same in
    let new = c.offer_each.new.stores in
    let lent = c.deref_mut.ensures.value in
    let after = c.in_ok-tally.ensures.stores ∙ ap (after_offers c.args.now (packet_along rows c.args.packet)) lent in
    let long : m.stores.len ≡ length new = omega (arith, m.stores.ok.0, c.offer_each.auto.stores, ap length lent) in
    let written = all_written m.stores.len new m.stores.items long in
    let told = c.in_ok-tally.ensures.tally ∙ ap (tally_over c.args.now (packet_along rows c.args.packet)) lent in
    record {
      after = ap (λ (all : List Held). let n : Holdings = record { stores = all; routes = m.control } in n) written
          ∙ recorded_along c.args.now c.args.packet (the_view m) rows new rows_is after
          ∙ ap (after_record c.args.now c.args.packet) c.self.view_is;
      tally = rw (← c.self.view_is)
          (told_along c.args.now c.args.packet (the_view m) rows c.in_ok-tally.tally rows_is told);
      err = tt;
    }
