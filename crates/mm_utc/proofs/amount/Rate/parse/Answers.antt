use Rattle.mm_utc.proofs.ParsedLemmas.{parsed_rate}
use Rattle.mm_utc.proofs.amount.Rate.parse.Goals as goal

pub returns : goal.returns
returns c = parsed_rate c.args.text.now c.rate_in.result c.rate_in.ensures
