use Rattle.mm_utc.proofs.ParsedLemmas.{parsed_volume}
use Rattle.mm_utc.proofs.amount.Volume.parse.Goals as goal

pub returns : goal.returns
returns c = parsed_volume c.args.text.now c.volume_in.result c.volume_in.ensures
