use Rattle.mm_record.proofs.Words.{◌+◌, ◌-◌, ◌*◌, length}
use Rattle.mm_record.proofs.recorder.+recorders.Given as goal

abbrev pub decreases-record_all : goal.decreases-record_all
decreases-record_all g l = 4 * length l.sources.now

abbrev pub decreases-record_halves : goal.decreases-record_halves
decreases-record_halves g l = 4 * (length l.low_sources.now + length l.high_sources.now) - 1

abbrev pub decreases-record_halves-low : goal.decreases-record_halves-low
decreases-record_halves-low g l = 4 * length l.low_sources.now + 1

abbrev pub decreases-record_halves-high : goal.decreases-record_halves-high
decreases-record_halves-high g l = 4 * length l.high_sources.now + 1
