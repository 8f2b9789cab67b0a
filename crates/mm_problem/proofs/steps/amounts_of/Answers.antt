use Rattle.std.proofs.Common.{◌≡◌, ◌+◌, ◌-◌, sym, ap, ◌∙◌, arith}
use Rattle.std.proofs.lemmas.Result.{err_from_is_err_and}
use Rattle.csv.specs.Records.{fields_of}
use Rattle.mm_problem.specs.Cells.{amount_of}
use Rattle.mm_problem.specs.Forecast.{cells_from, amounts_in}
use Rattle.mm_problem.proofs.ForecastCells.{no_cell_left, next_amount, bad_amount}
use Rattle.mm_problem.proofs.steps.amounts_of.Goals as goal

pub loop-i-init : goal.loop-i-init
loop-i-init c =
    let all : c.args.first + c.args.count - c.args.first ≡ c.args.count = omega arith in
    ap (λ k. amounts_in c.args.name c.args.number c.args.amounts.now.items (c.args.first + 1)
    (cells_from (fields_of c.args.row.now) c.args.first k)) all

pub returns-in_err-amount : goal.returns-in_err-amount
returns-in_err-amount c =
    let p = err_from_is_err_and c.from_residual.result c.from_residual.ensures.1 in
    let left = c.args.first + c.args.count - c.loop-i.i in
    rw (p.1, p.2) (λ other. sym c.loop-i.invariant
    ∙ bad_amount c.args.name c.args.number (c.loop-i.i + 1) c.loop-i.i c.loop-i.amounts.items
    (fields_of c.args.row.now) left (left - 1) (omega arith) (omega arith) c.in_err-amount.field-0.0
    (ap (amount_of c.args.number (c.loop-i.i + 1) c.args.name) (sym c.cell_of.ensures)
    ∙ c.in_err-amount.ensures.amount other))

pub loop-i-preserved : goal.loop-i-preserved
loop-i-preserved c =
    let left = c.args.first + c.args.count - c.loop-i.i in
    rw c.in_ok-push.ensures.items (
    sym (next_amount c.args.name c.args.number (c.loop-i.i + 1) c.loop-i.i c.loop-i.amounts.items
    (fields_of c.args.row.now) left (c.args.first + c.args.count - (c.loop-i.i + 1)) (omega arith)
    (omega arith) c.in_ok-amount.amount
    (ap (amount_of c.args.number (c.loop-i.i + 1) c.args.name) (sym c.cell_of.ensures) ∙ c.in_ok-amount.ensures.amount))
    ∙ c.loop-i.invariant)

pub returns : goal.returns
returns c = sym c.loop-i.invariant ∙ no_cell_left c.args.name c.args.number (c.loop-i.i + 1) c.loop-i.i
    c.loop-i.amounts.items (fields_of c.args.row.now) (c.args.first + c.args.count - c.loop-i.i) (omega arith)
