use Rattle.mm_dump.proofs.Words.{◌+◌, ◌-◌, ◌*◌, length}
use Rattle.mm_dump.proofs.dumper.+halves.Given as goal

abbrev pub decreases-dump_all : goal.decreases-dump_all
decreases-dump_all g l = 4 * length l.links.now

abbrev pub decreases-dump_halves : goal.decreases-dump_halves
decreases-dump_halves g l = 4 * (length l.low.0.now + length l.high.0.now) - 1

abbrev pub decreases-dump_halves-low : goal.decreases-dump_halves-low
decreases-dump_halves-low g l = 4 * length l.low_links.now + 1

abbrev pub decreases-dump_halves-high : goal.decreases-dump_halves-high
decreases-dump_halves-high g l = 4 * length l.high_links.now + 1
