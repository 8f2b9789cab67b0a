use Rattle.mm_shared.proofs.Words.{vec_len}
use Rattle.mm_shared.proofs.stores.+join_all.Given as goal

abbrev pub decreases-join_all : goal.decreases-join_all
decreases-join_all l = vec_len l.labels
