-- What a call with a buffer for a text leaves in the buffer, and answers.
use Rattle.std.specs.Prelude.{◌≡◌, ℕ, nat_le, List, ◌++◌, length, drop, if◌then◌else◌, ◌⊎◌}
use Rattle.mm_told.specs.RefusedAts.{bare, told_of}
use Rattle.mm_told.specs.declared.answer.Answer.{Answer}
use Rattle.mm_told.specs.declared.answer.Status.{Status}
use Rattle.mm_told.specs.declared.answer.Status.TheVariants as status
use Rattle.mm_told.specs.declared.codes.Place.TheVariants as place
use Rattle.mm_told.specs.declared.reason.Reason.{Reason}

-- the code of a status
abbrev pub code_of_status : Status → ℕ
code_of_status status.Written = 0
code_of_status status.TooSmall = 1
code_of_status status.Refused = 2
code_of_status status.Closed = 3
code_of_status status.Open = 4
code_of_status status.End = 5

-- how a call ends that has a text for this many octets of room
abbrev pub status_of : List ℕ → ℕ → Status
status_of text room = if nat_le (length text) room then status.Written else status.TooSmall

-- the answer with a text of this length
abbrev pub length_answer : Status → ℕ → Answer
length_answer status n = record { status = code_of_status status; refused = bare 0 place.Whole; length = n }

-- the answer with a text for this many octets of room
abbrev pub text_answer : List ℕ → ℕ → Answer
text_answer text room = length_answer (status_of text room) (length text)

-- the answer that a call is refused
abbrev pub refused_answer : Reason → Answer
refused_answer reason = record { status = code_of_status status.Refused; refused = told_of reason; length = 0 }

-- the buffer with the text at its head, or as it was where there is no room for all of it
abbrev pub put : List ℕ → List ℕ → List ℕ
put text out = if nat_le (length text) (length out) then text ++ drop (length text) out else out

-- a text is told: it is in the buffer, if there is room for all of it, and the answer has its length
pub record TellsText (text old new : List ℕ) (answer : Answer) : Type 0 where
  pub answered : answer ≡ text_answer text (length old)
  pub written : new ≡ put text old

-- a refusal is told, and the buffer is as it was
pub record TellsRefusal (reason : Reason) (old new : List ℕ) (answer : Answer) : Type 0 where
  pub answered : answer ≡ refused_answer reason
  pub left : new ≡ old

-- a text for which P holds is told
abbrev pub TellsSome : (List ℕ → Type 0) → List ℕ → List ℕ → Answer → Type 0
TellsSome P old new answer = (text : List ℕ) × P text × TellsText text old new answer

-- a text for which P holds is told, or a refusal for which Q holds
abbrev pub Tells : (List ℕ → Type 0) → (Reason → Type 0) → List ℕ → List ℕ → Answer → Type 0
Tells P Q old new answer =
    ((text : List ℕ) × P text × TellsText text old new answer)
    ⊎ ((reason : Reason) × Q reason × TellsRefusal reason old new answer)
