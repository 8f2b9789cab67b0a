-- The lines that are printed.
use Rattle.std.specs.Prelude.{ℕ, ◌+◌, List, [], ◌∷◌, ◌++◌, codes, decimal}
use Rattle.mm_base.specs.declared.refusal.Refusal.{Refusal}
use Rattle.mm_base.specs.Characters.{line_feed, space}
use Rattle.mm_base.specs.Refusals.{number_of, name_of}
use Rattle.hex.specs.Hex.{encode_upper}
use Rattle.mm_memory.specs.declared.answer.Answer.{Answer}
use Rattle.mm_memory.specs.declared.answer.Answer.TheVariants.{Done, Refused}
use Rattle.mm_memory.specs.Fault.{refusal_of as answer_refusal}
use Rattle.mm_ask.specs.declared.fault.LineFault.{LineFault}
use Rattle.mm_ask.specs.Fault.{refusal_of}

-- what is said of what is refused: the number and the name
abbrev pub refused_text : Refusal → List ℕ
refused_text refusal = codes " refused " ++ decimal (number_of refusal) ++ space ∷ name_of refusal ++ line_feed ∷ []

-- what is said of an instruction
abbrev pub answer_text : Answer → List ℕ
answer_text Done = codes " done\n"
answer_text (Refused fault) = refused_text (answer_refusal fault)

-- the line on a request that is refused whole
abbrev pub refused_line : ℕ → LineFault → List ℕ
refused_line line fault = decimal line ++ refused_text (refusal_of fault)

-- a line's number, and an instruction's place in its request
abbrev pub place_text : ℕ → ℕ → List ℕ
place_text line place = decimal line ++ codes "." ++ decimal place

-- the line on an instruction, with its place in the request
abbrev pub answer_line : ℕ → ℕ → Answer → List ℕ
answer_line line place answer = place_text line place ++ answer_text answer

-- the lines on the instructions from this place on
abbrev pub answer_lines : ℕ → ℕ → List Answer → List ℕ
answer_lines line place [] = []
answer_lines line place (answer ∷ answers) = answer_line line place answer ++ answer_lines line (place + 1) answers

-- the line on a report that these octets are
abbrev pub report_line : ℕ → List ℕ → List ℕ
report_line line octets = decimal line ++ codes " report " ++ encode_upper octets ++ line_feed ∷ []
