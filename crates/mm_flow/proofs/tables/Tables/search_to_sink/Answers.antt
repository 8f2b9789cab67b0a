use Rattle.std.proofs.Common.{arith}
use Rattle.mm_flow.proofs.LevelPaths.{marking_levelled, marked_path}
use Rattle.mm_flow.proofs.Working.{work_marked}
use Rattle.mm_flow.proofs.tables.Tables.search_to_sink.Goals as goal

pub invariant_of-self : goal.invariant_of-self
invariant_of-self c =
    let run = c.run_to.ensures in
    let levelled = marking_levelled run.marking in
    record { at_work = work_marked c.args.self.now.at_work c.run_to.new.self run.source run.fits levelled }

pub returns-clause-way : goal.returns-clause-way
returns-clause-way c = λ is.
    let run = c.run_to.ensures in
    marked_path run.marking c.args.self.now.sink (c.has_marked.ensures.marked is)

pub returns-clause-over : goal.returns-clause-over
returns-clause-over c = λ is.
    let missed = c.has_marked.ensures.missed is in
    record { searched = c.run_to.ensures.searched (omega arith); missed = missed }
