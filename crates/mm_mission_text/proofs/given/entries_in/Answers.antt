use Rattle.std.proofs.Common.{◌∙◌, map, refl, ap, arith}
use Rattle.std.proofs.lemmas.List.{drop_all}
use Rattle.std.proofs.lemmas.Result.{err_from_is_err_and}
use Rattle.toml.specs.View.{view}
use Rattle.mm_problem.proofs.RowsIn.{values_at}
use Rattle.mm_mission_text.proofs.AllIn.{all_none, all_next, all_fault}
use Rattle.mm_mission_text.proofs.given.entries_in.Goals as goal

pub returns-in_err-entry : goal.returns-in_err-entry
returns-in_err-entry g c =
    let p = err_from_is_err_and c.from_residual.result c.from_residual.ensures.1 in
    let here = values_at view c.args.tables.now c.loop-i.i c.index-tables-i.result (omega arith) c.index-tables-i.is in
    rw (p.1, p.2) (λ other. c.loop-i.invariant.left
    ∙ all_fault _ _ _ _ _ here c.loop-i.entries.items refl c.in_err-entry.field-0.0
    (rw c.loop-i.invariant.count (c.in_err-entry.ensures other)))

pub loop-i-preserved : goal.loop-i-preserved
loop-i-preserved g c =
    let here = values_at view c.args.tables.now c.loop-i.i c.index-tables-i.result (omega arith) c.index-tables-i.is in
    record {
      count = omega (arith, c.in_ok-push.ensures.len, c.loop-i.invariant.count);
      left = rw c.in_ok-push.ensures.items (c.loop-i.invariant.left
          ∙ all_next _ _ _ _ _ here c.loop-i.entries.items refl c.in_ok-entry.entry
          (rw c.loop-i.invariant.count c.in_ok-entry.ensures));
    }

pub returns : goal.returns
returns g c =
    c.loop-i.invariant.left
    ∙ all_none _ _ _ (ap (map view) (drop_all c.loop-i.i c.args.tables.now (omega arith)))
