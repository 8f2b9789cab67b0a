use Rattle.std.proofs.Common.{rules}
use Rattle.mm_chart.proofs.Numbers.{scaled_none}
use Rattle.mm_chart.proofs.picture.scaled.Goals as goal
use Rattle.mm_chart.proofs.picture.scaled.Goals.{then-whole-eq0-via-then-whole-eq0}
use Rattle.mm_chart.proofs.picture.scaled.Goals.{then-whole-eq0-via-else-whole-eq0+then-amount-eq0}

pub returns-then-whole-eq0-clause-scaled : goal.returns-then-whole-eq0-clause-scaled
returns-then-whole-eq0-clause-scaled c = elim c.then-whole-eq0.branch [
  | then-whole-eq0-via-then-whole-eq0 w ↦ rw w.if-whole-eq0.true (search rules)
  | then-whole-eq0-via-else-whole-eq0+then-amount-eq0 w ↦
      rw w.if-amount-eq0.true (scaled_none c.args.height c.args.whole)
]
