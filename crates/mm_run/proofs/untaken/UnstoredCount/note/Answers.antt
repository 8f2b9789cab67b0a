use Rattle.std.proofs.Common.{◌≡◌, true, false, length, refl, arith, rules}
use Rattle.std.proofs.lemmas.Bool.Decides.{nat_tests}
use Rattle.mm_packet.specs.Packet.{IsTelecommand}
use Rattle.mm_run.specs.Untaken.{is_late}
use Rattle.mm_run.proofs.Counting.{counted_more, telecommand_is, telemetry_more}
use Rattle.mm_run.proofs.Routes.{untaken_telecommand}
use Rattle.mm_run.proofs.untaken.UnstoredCount.note.Goals as goal

pub returns-then-source_line-steps-clause-counts : goal.returns-then-source_line-steps-clause-counts
returns-then-source_line-steps-clause-counts c = λ lines counted.
    let start = c.in-Some.start.now in
    let d = c.args.source_line.now in
    let before = c.args.self.now.unstored in
    let late : is_late (length start.problem.windows) d ≡ true = grind (arith, nat_tests) in
    rw c.in-Some.is (counted_more (length start.problem.windows) start.memory lines d before _ true _ _
    (rw c.in-Some.is at counted) late refl refl (omega arith) (omega arith) (omega arith))

pub returns-then-is_telecommand-clause-counts : goal.returns-then-is_telecommand-clause-counts
returns-then-is_telecommand-clause-counts c = λ lines counted.
    let start = c.in-Some.start.now in
    let d = c.args.source_line.now in
    let before = c.args.self.now.unstored in
    let late : is_late (length start.problem.windows) d ≡ false = grind (arith, nat_tests) in
    let is : IsTelecommand d.packet.kind = search rules in
    rw c.in-Some.is (counted_more (length start.problem.windows) start.memory lines d before _ false _ _
    (rw c.in-Some.is at counted) late (telecommand_is d.packet.kind is) (untaken_telecommand start.memory d.packet is)
    (omega arith) (omega arith) (omega arith))

pub returns-then-is_unrouted-clause-counts : goal.returns-then-is_unrouted-clause-counts
returns-then-is_unrouted-clause-counts c = λ lines counted.
    rw c.in-Some.is (telemetry_more _ c.in-Some.start.now.memory lines c.args.source_line.now _ _ true
    (rw c.in-Some.is at counted) (search rules) (search rules) (search rules) refl refl (omega arith))

pub returns-else-is_unrouted-clause-counts : goal.returns-else-is_unrouted-clause-counts
returns-else-is_unrouted-clause-counts c = λ lines counted.
    rw c.in-Some.is (telemetry_more _ c.in-Some.start.now.memory lines c.args.source_line.now _ _ false
    (rw c.in-Some.is at counted) (search rules) (search rules) (search rules) refl refl (omega arith))
