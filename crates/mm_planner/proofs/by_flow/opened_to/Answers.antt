use Rattle.std.proofs.Common.{Bool, List, ap, ◌∙◌}
use Rattle.mm_flow.specs.Solution.{side_of}
use Rattle.mm_planner.specs.Runs.{first_stretches, first_counts}
use Rattle.mm_planner.proofs.Opening.{covered}
use Rattle.mm_planner.proofs.by_flow.opened_to.Goals as goal

pub returns-clause-opened : goal.returns-clause-opened
returns-clause-opened c =
    let q = c.args.problem.now in
    let k = c.args.first in
    let next = c.in_ok-solved.ensures in
    let cut = c.in_ok-cut.ensures in
    record {
      continued = next;
      covered = covered q c.stores.ensures.is_dumping k c.requires.few c.in_ok-solved.solved next.solved c.in_ok-cut.cut
          (cut.stretches ∙ ap (λ (side : List Bool). first_stretches k q (side_of side)) c.as_slice.ensures.value)
          (cut.by_channels ∙ ap (λ (side : List Bool). first_counts k q (side_of side)) c.as_slice.ensures.value);
    }
