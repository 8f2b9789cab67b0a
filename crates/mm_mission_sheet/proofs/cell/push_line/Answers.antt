use Rattle.mm_mission_sheet.proofs.CellLemmas.{line_end}
use Rattle.mm_mission_sheet.proofs.cell.push_line.Goals as goal

pub returns : goal.returns
returns c =
    line_end c.args.cells.now c.args.more.now c.args.text.now.items c.push_first.new.text.items c.push_more.new.text.items
    c.push.new.self.items c.requires c.in_ok-push_first.ensures c.in_ok-push_more.ensures c.in_ok-push.ensures.items
