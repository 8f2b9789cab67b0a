use Rattle.std.proofs.Common.{◌+◌, map, refl, sym, ap, ◌∙◌, arith}
use Rattle.std.proofs.lemmas.List.{drop_all}
use Rattle.std.proofs.lemmas.Result.{err_from_is_err_and}
use Rattle.csv.specs.Records.{fields_of}
use Rattle.mm_problem.proofs.RowsIn.{values_at}
use Rattle.mm_mission_text.specs.Headers.{all_in}
use Rattle.mm_mission_text.specs.Tables.{next_entry}
use Rattle.mm_mission_text.proofs.AllIn.{all_none, all_next, all_fault}
use Rattle.mm_mission_text.proofs.RowsLeft.{blank_left, row_left, nothing_left}
use Rattle.mm_mission_text.proofs.table.entries_in.Goals as goal
use Rattle.mm_mission_text.proofs.table.entries_in.Goals.{then-not-is_blank+in_ok-entry+in_ok-push, else-not-is_blank}

pub returns-in_err-entry : goal.returns-in_err-entry
returns-in_err-entry g c =
    let p = err_from_is_err_and c.from_residual.result c.from_residual.ensures.1 in
    let here = values_at fields_of c.args.rows.now c.loop-i.i c.index-rows-i.result (omega arith) c.index-rows-i.is in
    let left = row_left (c.loop-i.i + 1) _ _ _ here (sym c.if-not-is_blank.ensures) in
    rw (p.1, p.2) (λ other. c.loop-i.invariant
    ∙ all_fault _ _ _ _ _ left c.loop-i.entries.items refl c.in_err-entry.field-0.0 (c.in_err-entry.ensures other))

pub loop-i-preserved : goal.loop-i-preserved
loop-i-preserved g c =
    let here = values_at fields_of c.args.rows.now c.loop-i.i c.index-rows-i.result (omega arith) c.index-rows-i.is in
    elim c.if-not-is_blank.branch [
      | then-not-is_blank+in_ok-entry+in_ok-push w ↦
          let left = row_left (c.loop-i.i + 1) _ _ _ here (sym w.if-not-is_blank.ensures) in
          rw (w.entries-is, w.in_ok-push.ensures.items) (c.loop-i.invariant
          ∙ all_next _ _ _ _ _ left c.loop-i.entries.items refl w.in_ok-entry.entry w.in_ok-entry.ensures)
      | else-not-is_blank w ↦ rw w.entries-is (c.loop-i.invariant
          ∙ ap (all_in (next_entry g.E.Entry.entry_in c.args.columns.now) c.loop-i.entries.items)
          (blank_left (c.loop-i.i + 1) _ _ _ here (sym w.if-not-is_blank.ensures)))
    ]

pub returns : goal.returns
returns g c =
    c.loop-i.invariant
    ∙ all_none _ _ _ (nothing_left (c.loop-i.i + 1) _
    (ap (map fields_of) (drop_all c.loop-i.i c.args.rows.now (omega arith))))
