use Rattle.mm_flow.proofs.LevelPaths.{marking_levelled, marked_path}
use Rattle.mm_flow.proofs.Working.{work_marked}
use Rattle.mm_flow.proofs.tables.Tables.search_anew.Goals as goal

pub invariant_of-self : goal.invariant_of-self
invariant_of-self c =
    let run = c.run.ensures in
    let levelled = marking_levelled run.searched.marking in
    record { at_work = work_marked c.args.self.now.at_work c.run.new.self run.source run.fits levelled }

pub returns-clause-way : goal.returns-clause-way
returns-clause-way c = λ is.
    let run = c.run.ensures in
    marked_path run.searched.marking c.args.self.now.sink (c.has_marked.ensures.marked is)

pub returns-clause-over : goal.returns-clause-over
returns-clause-over c = λ is.
    let missed = c.has_marked.ensures.missed is in
    record { searched = c.run.ensures.searched; missed = missed }
