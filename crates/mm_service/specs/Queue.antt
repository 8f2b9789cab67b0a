-- Reports that wait, one after another.
use Rattle.std.specs.Prelude.{◌∷◌, ◌++◌}
use Rattle.mm_service.specs.Words.{List, [], fold, SpacePacket, Report, kind_of, Counts, counted, numbers_of}
use Rattle.mm_ask.specs.Telemetry.{telemetry_of}

-- how many reports there were, and the packets of those that wait
pub record Queue : Type 0 where
  pub counts : Counts
  pub waiting : List SpacePacket

abbrev pub queue_of : Counts → List SpacePacket → Queue
queue_of counts waiting = record { counts = counts; waiting = waiting }

-- one more report on the request of this packet waits, and is counted
abbrev pub with_report : SpacePacket → Queue → Report → Queue
with_report asked q report =
    queue_of (counted q.counts (kind_of report)) (q.waiting
    ++ telemetry_of asked (numbers_of q.counts (kind_of report)) report ∷ [])

-- more reports on it wait, in order
abbrev pub with_reports : SpacePacket → List Report → Queue → Queue
with_reports asked reports q = fold (with_report asked) q reports
