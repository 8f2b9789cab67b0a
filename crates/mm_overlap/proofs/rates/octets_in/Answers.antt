use Rattle.std.proofs.Math.Nat.{pos_of_dvd_of_pos}
use Rattle.mm_overlap.proofs.BetterLemmas.{sent_alone}
use Rattle.mm_overlap.proofs.rates.octets_in.Goals as goal

pub nonzero_div-time : goal.nonzero_div-time
nonzero_div-time c = pos_of_dvd_of_pos c.requires.common c.requires.some

pub returns-clause-sent : goal.returns-clause-sent
returns-clause-sent c =
    rw (c.from.ensures, c.from-2.ensures) (sent_alone c.args.time c.args.rate.now c.requires.some c.requires.common)
