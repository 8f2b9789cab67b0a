use Rattle.std.proofs.Common.{◌≡◌, ◌+◌, ◌-◌, [], sym, ap, refl, ◌∙◌, arith}
use Rattle.std.proofs.lemmas.Result.{err_from_is_err_and}
use Rattle.csv.specs.Records.{fields_of}
use Rattle.mm_problem.specs.Forecast.{next_channel, cells_from}
use Rattle.mm_problem.proofs.ForecastCells.{cells_at}
use Rattle.mm_problem.proofs.RowsIn.{no_row, next_row, next_fault}
use Rattle.mm_problem.proofs.columns.channels_in.Goals as goal

pub returns-in_err-channel : goal.returns-in_err-channel
returns-in_err-channel c =
    let p = err_from_is_err_and c.from_residual.result c.from_residual.ensures.1 in
    let left = c.args.end - c.loop-i.i in
    let here = cells_at (fields_of c.args.row.now) c.loop-i.i left (left - 1) (omega arith) (omega arith) in
    record {
      channels = rw (p.1, p.2) (λ other. sym c.loop-i.invariant.same
          ∙ next_fault _ _ _ _ _ here c.as_slice.result.now c.as_slice.ensures.value c.in_err-channel.field-0.0
          (ap (next_channel c.as_slice.result.now) (sym c.cell_of.ensures) ∙ c.in_err-channel.ensures other));
      each = rw (p.1) tt;
    }

pub loop-i-preserved : goal.loop-i-preserved
loop-i-preserved c =
    let left = c.args.end - c.loop-i.i in
    let more = c.args.end - (c.loop-i.i + 1) in
    let here = cells_at (fields_of c.args.row.now) c.loop-i.i left more (omega arith) (omega arith) in
    let given = ap (next_channel c.as_slice.result.now) (sym c.cell_of.ensures) ∙ c.in_ok-channel.ensures in
    record {
      same = rw c.in_ok-push.ensures.items (
          sym (next_row _ _ _ _ _ here c.as_slice.result.now c.as_slice.ensures.value c.in_ok-channel.channel given)
          ∙ c.loop-i.invariant.same);
      each = omega (arith, c.in_ok-push.ensures.len, c.loop-i.invariant.each);
    }

pub returns : goal.returns
returns c =
    let left = c.args.end - c.loop-i.i in
    let none : left ≡ 0 = omega arith in
    let ended : cells_from (fields_of c.args.row.now) c.loop-i.i left ≡ [] = rw none refl in
    record {
      channels = sym c.loop-i.invariant.same ∙ no_row next_channel c.loop-i.channels.items _ ended;
      each = omega (arith, c.loop-i.invariant.each);
    }
