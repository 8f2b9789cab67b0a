-- A copy of the entry that `get` lends.
use Rattle.std.proofs.Common.{◌∙◌}
use Rattle.mm_told.proofs.Tables.{copied-entry}
use Rattle.mm_told.proofs.codes.entry.Goals as goal

pub returns : goal.returns
returns g c = c.copied.ensures ∙ copied-entry c.args.table.now c.args.code c.get.result c.get.ensures.lookup
