-- What the calls tell, by the definitions of the crates that answer.
use Rattle.std.specs.Prelude.{◌≡◌, ◌≢◌}
use Rattle.mm_c.specs.Words.{ℕ, ⊤, List, SetupFault, of_texts, of_setup, no_memory, Answer, TooSmall, Reason}
use Rattle.mm_cut.specs.declared.verdict.Verdict.{Verdict}
use Rattle.mm_cut.specs.declared.verdict.Verdict.TheVariants.{Least, LeastInOrder}
use Rattle.mm_cut.specs.Checking.{Checks, LosesLeast, LosesLeastInOrder, IsFaultOf}
use Rattle.mm_cut.specs.Lines.{line_of}
use Rattle.mm_cut.specs.declared.fault.Fault.{Fault}
use Rattle.mm_cut.specs.declared.fault.Fault.TheVariants.{NoMemory}
use Rattle.mm_planner.specs.PlanTexts.{IsPlanningFault}
use Rattle.mm_ask.specs.declared.answering.Outcome.{Outcome}
use Rattle.mm_ask.specs.declared.answering.Outcome.TheVariants.{AllDone, SomeRefused}
use Rattle.mm_ask.specs.Asking.{Answers, IsSetupFault}
use Rattle.mm_ask.specs.Reads.{Reads}
use Rattle.mm_told.specs.Verdicts.{told_of, nothing_told}
use Rattle.mm_told.specs.Telling.{code_of_status}
use Rattle.mm_told.specs.declared.verdict.VerdictTold.{VerdictTold}

-- it is the reason of a fault for which P holds, or out of memory, which may come at any time
abbrev pub IsOf : (Fault → Type 0) → Reason → Type 0
IsOf P reason = (fault : Fault) × (fault ≢ NoMemory → P fault) × (reason ≡ of_texts fault)

-- why there is no plan: the first fault of the setup and the forecast
abbrev pub IsWhyUnplanned : List ℕ → List ℕ → Reason → Type 0
IsWhyUnplanned setup forecast = IsOf (IsPlanningFault setup forecast)

-- why there is no verdict: the first fault of the setup, the forecast and the plan text
abbrev pub IsWhyUnjudged : List ℕ → List ℕ → List ℕ → Reason → Type 0
IsWhyUnjudged setup forecast plan = IsOf (IsFaultOf setup forecast plan)

-- the verdict on a plan text is told, also as its line; it is `Least` only where no plan that fits loses fewer blocks,
-- and `LeastInOrder` only where none loses fewer of the first stores either
pub record Judges (setup forecast plan : List ℕ) (told : VerdictTold) (line : List ℕ) : Type 0 where
  pub verdict : Verdict
  pub checks : Checks setup forecast plan verdict
  pub least : (n : ℕ) → verdict ≡ Least n → LosesLeast setup forecast plan n
  pub in_order : (n : ℕ) → verdict ≡ LeastInOrder n → LosesLeastInOrder setup forecast plan n
  pub told_is : told ≡ told_of verdict
  pub line_is : line ≡ line_of verdict

-- no verdict is told, for this reason
abbrev pub LeavesUnjudged : List ℕ → List ℕ → List ℕ → VerdictTold → Reason → Type 0
LeavesUnjudged setup forecast plan told reason = IsWhyUnjudged setup forecast plan reason × (told ≡ nothing_told)

-- the code of an outcome
abbrev pub code_of_outcome : Outcome → ℕ
code_of_outcome AllDone = 1
code_of_outcome SomeRefused = 2

-- the text answers the requests, and the code is that of their outcome
pub record Replies (setup requests : List ℕ) (code : ℕ) (text : List ℕ) : Type 0 where
  pub outcome : Outcome
  pub answers : Answers setup requests outcome text
  pub code_is : code ≡ code_of_outcome outcome

-- no outcome is told, for this reason: the fault of the setup
abbrev pub LeavesUnasked : List ℕ → ℕ → Reason → Type 0
LeavesUnasked setup code reason =
    ((fault : SetupFault) × IsSetupFault setup fault × (reason ≡ of_setup fault)) × (code ≡ 0)

-- the text says the packets in words, and the code is that of its outcome
pub record IsInWords (packets : List ℕ) (code : ℕ) (text : List ℕ) : Type 0 where
  pub outcome : Outcome
  pub reads : Reads packets outcome text
  pub code_is : code ≡ code_of_outcome outcome

-- no outcome is told, and the reason is out of memory
abbrev pub LeavesUnread : ℕ → Reason → Type 0
LeavesUnread code reason = (reason ≡ no_memory) × (code ≡ 0)

-- the reason is out of memory
abbrev pub IsNoMemory : Reason → Type 0
IsNoMemory reason = reason ≡ no_memory

-- the buffer is not too small
abbrev pub IsNotTooSmall : Answer → Type 0
IsNotTooSmall answer = answer.status ≢ code_of_status TooSmall

-- any text: of the words for people no more is said than that they are told whole, or not at all
abbrev pub IsAnyText : List ℕ → Type 0
IsAnyText text = ⊤
