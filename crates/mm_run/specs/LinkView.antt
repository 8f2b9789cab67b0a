-- A link that fails where lines say so.
use Rattle.std.specs.Prelude.{ℕ, ◌+◌, ◌≤◌, ◌≡◌, ◌==◌, Bool, List, [], length, Option, Some, None}
use Rattle.std.specs.List.{list_any}
use Rattle.mm_dump.specs.Sending.{Sent}
use Rattle.mm_run.specs.declared.link.FailedSend.{FailedSend}
use Rattle.mm_run.specs.declared.link.Note.{Note}

-- which of its sends fail by the lines, counted from 1; what was sent over it; how many sends have failed, and the last
-- of these
pub record LinkView : Type 0 where
  pub failing : List ℕ
  pub sent : List Sent
  pub failed : ℕ
  pub last_failure : Option FailedSend

-- a packet that was sent
abbrev pub sent_of : Note → Sent
sent_of n = record { store = n.store.value; stored = record { time = n.time.value; packet = n.packet.value } }

-- nothing was sent, and no send fails
abbrev pub new_link : LinkView
new_link = record { failing = []; sent = []; failed = 0; last_failure = None }

-- the number of the next send, which counts those that failed too
abbrev pub next_send : LinkView → ℕ
next_send w = length w.sent + w.failed + 1

-- whether the next send fails by the lines
abbrev pub fails_next : LinkView → Bool
fails_next w = list_any (λ send. send == next_send w) w.failing

-- the next send, of a packet of this store, has failed
abbrev pub after_failure : List ℕ → LinkView → LinkView
after_failure store w = record w {
  failed = w.failed + 1;
  last_failure = Some (record { send = next_send w; store = store });
}

-- where this many packets were sent and this many sends failed, the last failure is one of these sends; it is noted
-- where there was one
abbrev pub NotesLast : ℕ → ℕ → Option FailedSend → Type 0
NotesLast sent failed None = failed ≡ 0
NotesLast sent failed (Some f) = (1 ≤ failed) × (1 ≤ f.send) × (f.send ≤ sent + failed)
