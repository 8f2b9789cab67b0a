use Rattle.std.proofs.Common.{refl, arith}
use Rattle.mm_flow.specs.declared.search.Mark.{Mark}
use Rattle.mm_flow.proofs.LevelPaths.{levelled_set}
use Rattle.mm_flow.proofs.Working.{work_marked}
use Rattle.mm_flow.proofs.tables.Tables.raise_sink.Goals as goal

pub invariant_of-self : goal.invariant_of-self
invariant_of-self c =
    let work = c.args.self.now.at_work in
    let own : Mark = record { level = 4294967295; via = 0 } in
    let levelled = levelled_set c.args.self.now.sink own work.levelled work.sink_known (omega arith) in
    record {
      at_work = work_marked work _ refl
          (record { source = work.fits.source; marks = levelled.size; order = work.fits.order }) levelled;
    }
