use Rattle.mm_record.proofs.Words.{rules, ◌≡◌, length, step_of}
use Rattle.mm_record.proofs.Runs.{none_run, one_run, both_run}
use Rattle.mm_record.proofs.recorder.+recorders.Goals as goal

pub record_all-returns-then-is_empty : goal.record_all-returns-then-is_empty
record_all-returns-then-is_empty g t c =
    let none : length c.args.sources.now ≡ 0 = search rules in record {
      offered = none_run g.S.AnySource.leads g.S.AnySource.until (step_of c.args.context.now) c.args.sources.now
          c.args.workers.now none c.requires.may.same;
    }

pub record_all-returns-then-sources-eq1 : goal.record_all-returns-then-sources-eq1
record_all-returns-then-sources-eq1 g t c = record {
  offered = rw c.err.ensures.value (one_run g.S.AnySource.leads g.S.AnySource.until (step_of c.args.context.now)
      c.args.sources.now c.args.workers.now c.index-sources-0.result _ c.index-workers-0.result _ _
      c.if-sources-eq1.true c.requires.may.same c.record_source.ensures.end c.record_source.ensures.offered);
}

pub record_all-returns : goal.record_all-returns
record_all-returns g t c =
    let offered = both_run g.S.AnySource.leads g.S.AnySource.until _ _ _ _ _ _ _ _ _ _ _
    c.record_halves-first.ensures.low c.record_halves-first.ensures.high in
    let sources = c.split_at_mut-low_sources.ensures.value in
    let workers = c.split_at_mut-low_workers.ensures.value in
    record { offered = rw (c.worse.ensures, sources, workers) offered }
