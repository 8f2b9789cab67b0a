use Rattle.std.proofs.Common.{rules}
use Rattle.mm_plan.specs.Table.{IsTable}
use Rattle.mm_planner.specs.declared.planner.Planned.{Planned}
use Rattle.mm_planner.proofs.Showing.{shown_by}
use Rattle.mm_planner.proofs.certified.certified.Goals as goal

pub returns-clause-shown : goal.returns-clause-shown
returns-clause-shown c =
    let all = c.in-Some-certificate in
    let firsts = c.in_ok-firsts.ensures in
    let p : Planned = record { plan = c.args.plan; certificate = all.certificate; firsts = c.in-Some.firsts } in
    let table : IsTable c.args.plan = search rules in
    shown_by c.args.problem.now p c.stores.result table c.requires.whole
    c.stores.ensures.stores all.ensures.shows all.ensures.most (rw c.in-Some.is at firsts.show)
    (rw c.in-Some.is at firsts.most)
