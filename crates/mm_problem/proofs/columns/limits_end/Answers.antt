use Rattle.std.proofs.Common.{◌≡◌, ◌+◌, ◌<◌, [], drop, length, true, sym, ap, refl, ◌∙◌, arith}
use Rattle.std.proofs.lemmas.List.{drop_more}
use Rattle.std.proofs.lemmas.List.Sums.{prefix_len-drop_all}
use Rattle.csv.specs.Records.{fields_of}
use Rattle.mm_problem.specs.Forecast.{cell_of, names_limit, limit_count}
use Rattle.mm_problem.proofs.columns.limits_end.Goals as goal

pub loop-i-preserved : goal.loop-i-preserved
loop-i-preserved c =
    let fields = fields_of c.args.row.now in
    let i = c.loop-i.i in
    let within : i < length fields = omega arith in
    let limit : names_limit (cell_of fields i) ≡ true =
    ap names_limit (sym c.cell_of.ensures) ∙ sym c.names_limit.ensures ∙ c.if-not-names_limit.false in
    let more : limit_count (drop i fields) ≡ 1 + limit_count (drop (i + 1) fields) =
    rw (drop_more fields i [] within, limit) refl in
    omega (arith, more, c.loop-i.invariant)

pub returns : goal.returns
returns c =
    let none = prefix_len-drop_all names_limit (fields_of c.args.row.now) c.loop-i.i (omega arith) in
    record { end = omega (arith, none, c.loop-i.invariant); within = omega arith }
