use Rattle.mm_record.proofs.Words.{◌≡◌, end_of, step_of}
use Rattle.mm_record.specs.Routings.{AreRoutings}
use Rattle.mm_record.proofs.SoFar.{RecordedSoFar}
use Rattle.mm_record.proofs.recorder.record_source.Given as goal

abbrev pub invariant-loop : goal.invariant-loop
invariant-loop g l = record {
  routings : AreRoutings l.context.control.now l.context.labels.now l.routings;
  so_far : (last : g.row.S.Denot) → g.S.AnySource.leads l.source last → g.S.AnySource.leads l.initial.source last
      × RecordedSoFar (step_of l.context) (g.S.AnySource.until l.initial.source last)
      (g.S.AnySource.until l.source last)
      l.port;
  end : end_of l.port ≡ end_of l.initial.port;
}
