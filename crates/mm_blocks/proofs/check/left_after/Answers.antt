use Rattle.std.proofs.Common.{arith}
use Rattle.mm_blocks.proofs.TableLemmas.{entry_is}
use Rattle.mm_blocks.proofs.check.left_after.Goals as goal

pub returns : goal.returns
returns c = entry_is c.args.more c.args.octet (omega arith) (omega arith)
