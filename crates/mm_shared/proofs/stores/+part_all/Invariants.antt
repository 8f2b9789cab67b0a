use Rattle.mm_shared.proofs.Words.{vec_len}
use Rattle.mm_shared.proofs.stores.+part_all.Given as goal

abbrev pub decreases-part_all : goal.decreases-part_all
decreases-part_all l = vec_len l.stores.now
