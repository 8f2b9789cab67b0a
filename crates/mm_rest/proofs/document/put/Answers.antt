use Rattle.mm_rest.proofs.Fronts.{put_front}
use Rattle.mm_rest.proofs.document.put.Goals as goal

pub returns : goal.returns
returns c = put_front c.in_ok-key.key c.args.key.now c.args.value c.args.table.now.entries c.insert.new.self.entries
    c.in_ok-key.ensures.ok c.requires c.in_ok-_earlier.ensures.entries
