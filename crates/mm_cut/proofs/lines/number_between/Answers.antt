use Rattle.std.proofs.Common.{append_assoc}
use Rattle.mm_cut.proofs.lines.number_between.Goals as goal

pub returns : goal.returns
returns c = simp (append_assoc, c.into_bytes.ensures.value, c.in_ok-format.ensures.ok)
