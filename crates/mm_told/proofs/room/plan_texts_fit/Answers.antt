use Rattle.mm_told.proofs.Rooms.{plan_text_fits}
use Rattle.mm_told.proofs.room.plan_texts_fit.Goals as goal

pub returns : goal.returns
returns c = plan_text_fits
