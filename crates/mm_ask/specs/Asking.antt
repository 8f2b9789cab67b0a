-- A whole conversation, from the setup and the lines.
use Rattle.std.specs.Prelude.{◌≡◌, ℕ, List, Ok, Err}
use Rattle.mm_problem.specs.Document.{setup_of}
use Rattle.mm_problem.specs.declared.fault.Fault.{Fault}
use Rattle.mm_problem.specs.declared.fault.Fault.TheVariants.{NoMemory}
use Rattle.mm_base.specs.Lines.{text_lines}
use Rattle.mm_problem.specs.Setup.{SetupRows}
use Rattle.mm_memory.specs.Holdings.{memory_of}
use Rattle.mm_ask.specs.declared.answering.Outcome.{Outcome}
use Rattle.mm_ask.specs.Answering.{Standing, opened, Follows}
use Rattle.mm_ask.specs.Lines.{PassesEach}

-- what lines leave; they are numbered from this number on
abbrev pub Converses : ℕ → List (List ℕ) → Standing → Standing → Type 0
Converses = PassesEach Follows

-- the text answers the requests, line by line, from the memory of the setup on, and the outcome is theirs
pub record Answers (setup requests : List ℕ) (outcome : Outcome) (text : List ℕ) : Type 0 where
  pub rows : SetupRows
  pub setup_says : setup_of setup ≡ Ok rows
  pub end : Standing
  pub conversation : Converses 1 (text_lines requests) (opened (memory_of rows)) end
  pub ends : outcome ≡ end.outcome
  pub says_all : text ≡ end.text

-- the fault of the setup, or out of memory
abbrev pub IsSetupFault : List ℕ → Fault → Type 0
IsSetupFault setup NoMemory = Unit {0}
IsSetupFault setup e = setup_of setup ≡ Err e
