use Rattle.std.proofs.Common.{rules, ◌<◌, length, lit<}
use Rattle.std.proofs.lemmas.Iterator.Consumers.{map_from_collect}
use Rattle.std.proofs.lemmas.Iterator.Splits.{YieldsList-from_str_split}
use Rattle.mm_commands.proofs.Words.{words_between}
use Rattle.mm_commands.proofs.run.words_of.Goals as goal

pub returns-else-is_empty : goal.returns-else-is_empty
returns-else-is_empty c =
    let some : 0 < length c.args.line.now = search rules in
    record {
      words = rw (words_between c.args.line.now some) (map_from_collect c.collect.result c.collect.ensures.ran
          (YieldsList-from_str_split 32 c.args.line.now
          (lit< tt) c.split.ensures.text c.split.ensures.has_more c.split.ensures.pattern));
    }
