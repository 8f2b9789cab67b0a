use Rattle.std.proofs.Common.{arith}
use Rattle.mm_mission_sheet.specs.Timelines.{dump_cells}
use Rattle.mm_mission_sheet.proofs.CellLemmas.{lines_step}
use Rattle.mm_mission_sheet.proofs.timeline.push_dumps.Goals as goal

pub loop-dump-preserved : goal.loop-dump-preserved
loop-dump-preserved c =
    lines_step (dump_cells c.args.flight.now.begin c.args.flight.now.mission.now c.args.flight.now.names.now)
    c.args.dumps.now c.loop-dump.dump-index _ c.args.text.now.items c.loop-dump.text.items c.push_dump.new.text.items
    (omega arith) c.loop-dump.invariant c.in_ok-push_dump.ensures
