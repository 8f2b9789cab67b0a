use Rattle.std.proofs.Common.{rules}
use Rattle.mm_base.specs.Reading.{Gives}
use Rattle.mm_problem.specs.Dumping.{Dumping}
use Rattle.mm_mission.specs.declared.fault.Fault.TheVariants.{NoMemory}
use Rattle.mm_mission.specs.Planned.{problem_of}
use Rattle.mm_mission.proofs.Planning.{given_is_of}
use Rattle.mm_mission.proofs.planned.problem.Goals as goal

pub returns-clause-is_of : goal.returns-clause-is_of
unfolding problem_of
returns-clause-is_of c =
    let given : Gives {X = Dumping} {Y = Dumping} NoMemory (λ q. q) c.limited_problem.result
    (problem_of c.args.mission.now c.args.edges.now) = search rules in
    given_is_of c.args.mission.now c.args.edges.now c.limited_problem.result given
