use Rattle.mm_links.proofs.Needed.{shares_have_room}
use Rattle.mm_links.proofs.laws.shares_have_room.Goals as goal

pub returns : goal.returns
returns c = shares_have_room
