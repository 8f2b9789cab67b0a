use Rattle.std.proofs.Common.{◌≡◌, ◌++◌, ◌∙◌, ap, sym}
use Rattle.std.specs.Prelude.{codes}
use Rattle.mm_mission_sheet.specs.Sheets.{sheet_rows, rows_text}
use Rattle.mm_mission_sheet.proofs.SheetLemmas.{sheet_header_is}
use Rattle.mm_mission_sheet.proofs.sheet.sheet_csv.Goals as goal

pub returns : goal.returns
returns c =
    let m = c.args.mission.now in
    let rows = rows_text c.args.begin m c.args.names.now (sheet_rows m c.args.edges.now c.args.steps.now) in
    let head : c.extend_from_slice.new.self.items
    ≡ codes "pass,station,begin,end,store,packets,octets,bit/s,before,after,lost\n" =
    c.in_ok-extend_from_slice.ensures.items
    ∙ ap (λ xs. xs ++ codes "pass,station,begin,end,store,packets,octets,bit/s,before,after,lost\n") c.new-text.ensures.items in
    c.in_ok-push_rows.ensures ∙ ap (λ xs. xs ++ rows) (head ∙ sym sheet_header_is)
