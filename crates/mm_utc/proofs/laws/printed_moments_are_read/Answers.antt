use Rattle.mm_utc.proofs.PrintedLemmas.{moment_again}
use Rattle.mm_utc.proofs.laws.printed_moments_are_read.Goals as goal

pub returns : goal.returns
returns c = λ m date below is. moment_again m date is
