use Rattle.mm_chart.specs.Rows.{store_side}
use Rattle.mm_chart.proofs.rows.push_store_side.Goals as goal

pub returns : goal.returns
unfolding store_side
returns c = rw (c.from-size.ensures, c.from-channel.ensures) at c.push_label.ensures
