use Rattle.mm_utc.proofs.ParsedLemmas.{parsed_moment}
use Rattle.mm_utc.proofs.moment.Moment.parse.Goals as goal

pub returns : goal.returns
returns c = parsed_moment c.args.text.now c.read_moment.result c.read_moment.ensures
