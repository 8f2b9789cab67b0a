use Rattle.std.proofs.Common.{arith}
use Rattle.std.specs.Int.{◌∣◌}
use Rattle.mm_mission.specs.declared.parts.Rate.{Rate}
use Rattle.mm_overlap.specs.Better.{rates_of}
use Rattle.mm_overlap.proofs.BetterLemmas.{common_of_pass}
use Rattle.mm_overlap.proofs.rates.all_octets.Goals as goal

pub octets_of-requires-clause-common : goal.octets_of-requires-clause-common
octets_of-requires-clause-common c =
    common_of_pass (rates_of c.args.channels.now) (λ (r : Rate). r.micros ∣ c.args.time) c.args.passes.now
    c.loop-pass.pass-index _ (omega arith) c.requires.time.common
