use Rattle.mm_desk.proofs.Lone.{lone_log}
use Rattle.mm_desk.proofs.laws.lone_seats_are_logs.Goals as goal

pub returns : goal.returns
returns c = record { law = lone_log }
