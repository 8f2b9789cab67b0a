-- Which replies an event may have. No public clause cites this module.
use Rattle.std.specs.Prelude.{◌≡◌, ◌≢◌, Ok, Err}
use Rattle.mm_desk.specs.Types.{Event, Offer, Begin, Next, Abort, Delete, Enable, Disable, NoMemory, Reply}
use Rattle.mm_desk.specs.declared.reply.Reply.TheVariants as reply

-- whether something is done was answered, and not that there is no memory
abbrev pub IsDone : Reply → Type 0
IsDone (reply.Done done) = done ≢ Err NoMemory
IsDone other = ⊥

-- the reply is of the event's sort, and not that there is no memory; a packet that is handed back is the one offered
abbrev pub Answers : Event → Reply → Type 0
Answers (Offer now packet) (reply.Offered (Ok offered)) = Unit {0}
Answers (Offer now packet) (reply.Offered (Err back)) = (back.fault ≢ NoMemory) × (back.packet ≡ packet)
Answers (Offer now packet) other = ⊥
Answers (Begin from to) reply = IsDone reply
Answers Next (reply.Given given) = given ≢ Err NoMemory
Answers Next other = ⊥
Answers Abort reply = IsDone reply
Answers (Delete limit) (reply.Deleted deleted) = deleted ≢ Err NoMemory
Answers (Delete limit) other = ⊥
Answers Enable reply = IsDone reply
Answers Disable reply = IsDone reply
