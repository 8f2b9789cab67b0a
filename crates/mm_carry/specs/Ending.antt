-- How a run ends: carried out, or halted.
use Rattle.std.specs.Prelude.{◌≡◌, ℕ, ◌-◌, ◌≤◌, ◌⊎◌, List, [], length, Option, None, Some}
use Rattle.mm_carry.specs.Words.{window, FitsAt, Table, loss, labels_of, Holdings, Supply, Sent, Reported, totals_of}
use Rattle.mm_carry.specs.Words.{Cause, NoMemory, LinkFailed}
use Rattle.mm_carry.specs.Readiness.{RunStart, run_start, MayBegin, Stops}
use Rattle.mm_carry.specs.declared.step.Stop.{Stop}
use Rattle.mm_carry.specs.declared.run_end.Halted.{Halted}
use Rattle.mm_carry.specs.RunInput.{RunInput, recording_in, as_came, step_orders}
use Rattle.mm_carry.specs.Beyond.{IsIsolated, LosesAtMost}
use Rattle.mm_carry.specs.RunState.{RunState, with_supplies}
use Rattle.mm_carry.specs.Step.{AreReady, NeverRefused, StepStopped, IsStep}
use Rattle.mm_carry.specs.Course.{AreWithinLimits}
use Rattle.mm_carry.specs.Steps.{StepsDone, taken_amounts}
use Rattle.mm_carry.specs.Failure.{FailedLink}

-- what a run holds whose stores are those of a memory
abbrev pub over_memory : {S L : Type 0} → Holdings → List S → List L → RunState S L
over_memory memory sources links = record { stores = memory.stores; sources = sources; links = links }

-- what a run would begin with
abbrev pub run_start_of : {S L : Type 0} → RunInput → Table → RunState S L → RunStart
run_start_of m plan first = run_start m.problem plan m.memory.stores m.base (length first.sources) (length first.links)

-- where a run stands after its first steps: the tests before it passed, the steps are carried out, the report is
-- theirs, in each of them the links took no more than the window, and of each channel no more than its limit, and the
-- stores are sound and ready for more
pub record HasRun {L : Type 0} (sent : L → List Sent) (failed : L → ℕ) (m : RunInput) (plan : Table)
    (first : RunState Supply L) (steps : ℕ) (now : RunState Supply L) (report : Reported) : Type 0 where
  pub began : MayBegin (run_start_of m plan first)
  pub done : StepsDone sent failed m first.sources first.links steps now report
  pub fit : (t : ℕ) → 1 ≤ t → t ≤ steps → FitsAt m.problem (taken_amounts m done.gave done.links_are.took) t
  pub ready : AreReady now.stores

-- the tests before a run passed, and the plan was carried out, and left this memory, whose stores are sound and ready
-- for more. The lost packets of the report are as many as the plan loses of what came, and what came beyond the
-- forecast cost no more than itself, in each store
pub record IsCarriedOut {L : Type 0} (sent : L → List Sent) (failed : L → ℕ) (m : RunInput) (plan : Table)
    (links : List L) (memory : Holdings) (left : List Supply) (links_left : List L) (report : Reported) : Type 0 where
  pub routes : memory.routes ≡ m.memory.routes
  pub ran : HasRun sent failed m plan (over_memory m.memory m.gives links) (length m.problem.windows)
      (over_memory memory left links_left) report
  pub total_lost : (totals_of report.steps).lost ≡ loss (as_came m) m.amounts
  pub at_most : LosesAtMost m (loss m.problem m.amounts) (totals_of report.steps).lost
  pub isolated : IsIsolated m memory.stores report.steps

-- the tests before a run passed, and it was halted in a step: those before it are carried out, and the report is
-- theirs. The stores are left in their order, each sound and ready for more; each source keeps the rest of what it gave
-- in the step, and no more was spent in it than its window. Where counts are far from their end, no store refused a
-- packet
pub record IsHaltedIn {L : Type 0} (sent : L → List Sent) (failed : L → ℕ) (m : RunInput) (plan : Table)
    (first : RunState Supply L) (step : ℕ) (left : RunState Supply L) (stop : Stop) (report : Reported) : Type 0 where
  pub from_one : 1 ≤ step
  pub last : step ≤ length m.problem.windows
  -- what the step began with
  pub before : RunState Supply L
  pub ran : HasRun sent failed m plan first (step - 1) before report
  -- the stores, the sources and the window
  pub labels : labels_of left.stores ≡ labels_of m.memory.stores
  pub ready : AreReady left.stores
  pub stopped_is : StepStopped step before left stop.cause
  pub within : stop.spent ≤ window m.problem step
  -- how the step was broken off: what the recorders and the dump workers did, and why; and what each link did where one
  -- failed
  pub how : IsStep sent failed (recording_in m step before.stores) (step_orders m step) (Some stop) before left
  pub failed_link : stop.cause ≡ LinkFailed step
      → FailedLink sent failed (recording_in m step before.stores) (step_orders m step) before left
  pub never_refused : AreWithinLimits (length m.problem.windows) m.memory.stores m.gives → NeverRefused stop.cause

-- how the steps of a run ended: without a stop all are carried out, and with one the run was halted in one of them
abbrev pub HasEnded : {L : Type 0} → (L → List Sent) → (L → ℕ) → RunInput → Table → RunState Supply L → Option Stop
    → RunState Supply L → Reported → Type 0
HasEnded sent failed m plan first None now report =
    HasRun sent failed m plan first (length m.problem.windows) now report
HasEnded sent failed m plan first (Some stop) left report =
    (step : ℕ) × IsHaltedIn sent failed m plan first step left stop report

-- nothing was done
pub record IsUntouched {S L : Type 0} (first left : RunState S L) (stop : Stop) (report : Reported) : Type 0 where
  pub same : left ≡ first
  pub report_is : report.steps ≡ []
  pub spent_is : stop.spent ≡ 0

-- a cause before the first step: its test is the first that fails, or all tests passed and there was no memory
abbrev pub IsRefusal : RunStart → Cause → Type 0
IsRefusal o cause = Stops o cause ⊎ ((cause ≡ NoMemory 0) × MayBegin o)

-- how a run ended that was not carried out, with sources that still give this: in a step, or before the first
abbrev pub IsStopped : {S L : Type 0} → (L → List Sent) → (L → ℕ) → RunInput → Table → RunState S L → RunState S L
    → List Supply → Stop → Reported → Type 0
IsStopped sent failed m plan first after left stop report =
    ((step : ℕ)
    × IsHaltedIn sent failed m plan (with_supplies first m.gives) step (with_supplies after left) stop report)
    ⊎ (IsUntouched first after stop report × IsRefusal (run_start_of m plan first) stop.cause)

-- why a run was halted
abbrev pub stop_of : {S L : Type 0} → Halted S L → Stop
stop_of halted = record { cause = halted.cause; spent = halted.spent }

-- how a run was halted, which left this memory, with its routes, and sources that still give this: in a step, for a
-- cause in that step; or before the first, with nothing done, where the test of the cause is the first to fail, or all
-- passed and there was no memory
abbrev pub IsHalted : {S L : Type 0} → (L → List Sent) → (L → ℕ) → RunInput → Table → List S → List L → Holdings
    → Halted S L → List Supply → Type 0
IsHalted sent failed m plan sources links memory halted left =
    (memory.routes ≡ m.memory.routes) × IsStopped sent failed m plan (over_memory m.memory sources links)
    (over_memory memory halted.sources.items halted.links.items) left (stop_of halted) halted.report
