use Rattle.std.proofs.Common.{◌∙◌, ap, arith, map, subst, take_all}
use Rattle.std.specs.List.{All}
use Rattle.std.proofs.lemmas.List.Elements.{All-nil}
use Rattle.toml.specs.View.{view}
use Rattle.mm_rest.proofs.Fronts.{one_more, whole_more}
use Rattle.mm_rest.proofs.document.values_of.Goals as goal

pub loop-row-init : goal.loop-row-init
loop-row-init g c = record {
  values = ap (map view) c.new-values.ensures.items;
  whole = All-nil g.R.Tabled.IsWhole;
}

pub loop-row-preserved : goal.loop-row-preserved
loop-row-preserved g c = record {
  values = rw c.in_ok-push.ensures.items (one_more c.args.rows.now c.loop-row.row-index c.row-item.result (omega arith)
      c.row-item.is g.R.Tabled.data_of c.loop-row.values.items c.in_ok-value.value c.loop-row.invariant.values
      c.in_ok-value.ensures.value);
  whole = whole_more c.args.rows.now c.loop-row.row-index c.row-item.result (omega arith) c.row-item.is
      g.R.Tabled.IsWhole c.loop-row.invariant.whole c.in_ok-value.ensures.whole;
}

pub returns-clause-values : goal.returns-clause-values
returns-clause-values g c = c.loop-row.invariant.values
    ∙ ap (map g.R.Tabled.data_of) (take_all c.loop-row.row-index c.args.rows.now (omega arith))

pub returns-clause-whole : goal.returns-clause-whole
returns-clause-whole g c =
    subst (All g.R.Tabled.IsWhole) (take_all c.loop-row.row-index c.args.rows.now (omega arith))
    c.loop-row.invariant.whole
