use Rattle.std.proofs.Common.{arith}
use Rattle.mm_mission_sheet.proofs.CellLemmas.{escaped_nothing, escaped_step}
use Rattle.mm_mission_sheet.proofs.cell.push_escaped.Goals as goal

pub loop-octet-init : goal.loop-octet-init
loop-octet-init c = escaped_nothing c.args.text.now.items

pub loop-octet-preserved : goal.loop-octet-preserved
loop-octet-preserved c =
    escaped_step c.args.cell.now c.loop-octet.octet-index _ c.args.text.now.items c.loop-octet.text.items
    c.push_octet.new.text.items (omega arith) c.loop-octet.invariant c.in_ok-push_octet.ensures
