-- The answers to instructions, as octets.
use Rattle.mm_service.specs.Words.{ℕ, Answer}
use Rattle.mm_base.specs.Refusals.{number_of}
use Rattle.mm_memory.specs.declared.answer.Answer.TheVariants.{Done, Refused}
use Rattle.mm_memory.specs.Fault.{refusal_of}
use Rattle.mm_service.specs.declared.answers.TheConstants.{DONE}

-- the code of an answer: `DONE`, or the number of the refusal
abbrev pub code_of_answer : Answer → ℕ
code_of_answer Done = DONE
code_of_answer (Refused fault) = number_of (refusal_of fault)
