use Rattle.tests_run.proofs.tests.records.lend_and_record.Goals as goal

pub record-requires-clause-named : goal.record-requires-clause-named
record-requires-clause-named g c κs lives =
    rw c.lift-stores.ensures.stores (c.held_stores_are_named.ensures.law _ c.lift-stores.ensures.are_held)
