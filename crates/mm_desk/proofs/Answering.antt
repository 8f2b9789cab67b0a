-- The machine's reply to an event is of its sort.
use Rattle.mm_desk.proofs.Words.{◌≢◌, refl, Err, Event, Offer, Begin, Next, Abort, Delete, NoMemory, Answers, State}
use Rattle.mm_desk.proofs.Words.{step}
use Rattle.mm_desk.proofs.Cases.{put_cases, begin_cases, next_cases, abort_cases, delete_cases}
use Rattle.mm_desk.specs.declared.reply.Reply.TheVariants as reply

-- the reply is of the event's sort
pub step_answers : (s : State) (e : Event) → Answers e (step s e).0
step_answers s (Offer now packet) =
    put_cases s (λ r. Answers (Offer now packet) (reply.Offered r.0)) now packet (λ fault other. (other, refl))
    (λ new is free. tt) (λ new is oldest later o. tt) (λ stuck. tt)
step_answers s (Begin from to) =
    begin_cases s (λ r. r.0 ≢ Err NoMemory) from to (λ fault other same. other (cc same)) (λ idle same. cc same)
step_answers s Next =
    next_cases s (λ r. r.0 ≢ Err NoMemory) (λ same. cc same) (λ r p on found same. cc same) (λ same. cc same)
step_answers s Abort = abort_cases s (λ r. r.0 ≢ Err NoMemory) (λ same. cc same) (λ same. cc same)
step_answers s (Delete limit) =
    delete_cases s (λ r. r.0 ≢ Err NoMemory) limit (λ busy same. cc same) (λ idle same. cc same)
step_answers s e = λ same. cc same
