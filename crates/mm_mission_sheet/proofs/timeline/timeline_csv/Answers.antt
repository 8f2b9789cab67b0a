use Rattle.std.proofs.Common.{◌≡◌, ◌++◌, ◌∙◌, ap, sym, map}
use Rattle.std.specs.Prelude.{codes}
use Rattle.std.proofs.lemmas.List.Sorted.{All-permutation}
use Rattle.mm_mission_sheet.specs.Cells.{csv_text}
use Rattle.mm_mission_sheet.specs.Timelines.{IsDump, dump_cells}
use Rattle.mm_mission_sheet.proofs.CellLemmas.{header_is}
use Rattle.mm_mission_sheet.proofs.timeline.timeline_csv.Goals as goal

pub push_dumps-requires : goal.push_dumps-requires
push_dumps-requires c =
    rw c.deref.ensures.value
    (All-permutation (IsDump c.args.mission.now) _ _ c.in_ok-dumps.ensures.same c.requires.dumps)

pub returns : goal.returns
returns c =
    let dumps = c.in_ok-dumps.dumps.items in
    let lines = csv_text (map (dump_cells c.args.begin c.args.mission.now c.args.names.now) dumps) in
    let head : c.extend_from_slice.new.self.items ≡ codes "pass,station,begin,end,store,packets,octets,bit/s\n" =
    c.in_ok-extend_from_slice.ensures.items
    ∙ ap (λ xs. xs ++ codes "pass,station,begin,end,store,packets,octets,bit/s\n") c.new-text.ensures.items in
    record {
      ordered = dumps;
      same = c.in_ok-dumps.ensures;
      lines = rw (c.deref.ensures.value) at c.in_ok-push_dumps.ensures ∙ ap (λ xs. xs ++ lines) (head ∙ sym header_is);
    }
