-- The steps of a run, one after another.
use Rattle.std.specs.Prelude.{◌≡◌, ℕ, ◌+◌, ◌-◌, ◌<◌, ◌≤◌, ◌^◌, List, [], ◌∷◌, ◌++◌, length, map, All, vec_capacity}
use Rattle.std.specs.Prelude.{Option, IfNone, IfSome}
use Rattle.mm_carry.specs.Words.{MAX_STORES, window, amount, HasShape, IsState, Held, AreHeld}
use Rattle.mm_carry.specs.Words.{recording, AreFew, Supply, amount_of, Sent, Order, Reported}
use Rattle.mm_shared.specs.declared.counters.StoreCounters.{StoreCounters}
use Rattle.mm_carry.specs.Readiness.{run_start, MayBegin}
use Rattle.mm_carry.specs.Places.{StandWithin}
use Rattle.mm_carry.specs.declared.course.RunContext.{RunContext}
use Rattle.mm_carry.specs.declared.room.RunBuffers.{RunBuffers}
use Rattle.mm_carry.specs.declared.step.Stop.{Stop}
use Rattle.mm_carry.specs.RunInput.{RunInput, run_input}
use Rattle.mm_carry.specs.RunState.{RunState}
use Rattle.mm_carry.specs.Numbers.{row_from, state_by, orders_of, AreCounters}
use Rattle.mm_carry.specs.Step.{MayCarry, IsStep}

-- what a run is given that begins with these stores, sources and links
abbrev pub given_to : {L : Type 0} → RunContext → RunState Supply L → RunInput
given_to run first =
    run_input run.problem.now run.plan.now run.base (record { stores = first.stores; routes = run.control.now })
    first.sources

-- the orders of a step, for stores of the problem that stand at these places
abbrev pub orders_at : RunContext → List ℕ → ℕ → List Order
orders_at run places step = orders_of (amount run.plan.now) places step (length run.problem.now.rows)

-- one step of a run may be carried out and reported: the plan is for the problem, the step is one of its steps and its
-- moment fits, each store of the problem stands at a place of its own and has these counters, the step may be carried
-- out, its orders fit the window, and there is room for its row
pub record MayReport {S L : Type 0} (failed : L → ℕ) (run : RunContext) (places : List ℕ) (step : ℕ)
    (counters : List StoreCounters) (buffers : RunBuffers) (now : RunState S L) : Type 0 where
  pub shape : HasShape run.problem.now run.plan.now
  pub first : 1 ≤ step
  pub last : step ≤ length run.problem.now.windows
  pub stand : StandWithin (length run.problem.now.rows) now.stores places
  pub counters_are : AreCounters now.stores places (length run.problem.now.rows) counters
  pub carry : MayCarry failed (run.base + step) (orders_at run places step) now
  pub fit : amount_of (orders_at run places step) ≤ window run.problem.now step
  pub orders : MAX_STORES ≤ vec_capacity buffers.orders
  pub ids : length buffers.report.ids ≡ length run.problem.now.rows
  pub room : length buffers.report.steps < buffers.report.most

-- one step was carried out, and the report has its row; or it was broken off, no more than its window was spent, and
-- the report is as it was
pub record IsReportedStep {L : Type 0} (sent : L → List Sent) (failed : L → ℕ) (run : RunContext) (places : List ℕ)
    (t : ℕ) (stop : Option Stop) (report new : Reported) (before after : RunState Supply L) : Type 0 where
  pub step : IsStep sent failed (recording t (run.base + t) run.control.now before.stores) (orders_at run places t) stop
      before after
  pub within : IfSome stop (λ s. s.spent ≤ window run.problem.now t)
  pub unreported : IfSome stop (λ _. new ≡ report)
  pub row : IfNone stop (new ≡ record report {
    steps = report.steps
        ++ row_from run.problem.now t (state_by places before.stores) (state_by places after.stores) ∷ [];
  })

-- all steps of a run may be carried out: its tests have passed, its stores are those of a memory and sound, each link
-- may fail once more, and there is room for the report and for a step's orders
pub record MayRun {S L : Type 0} (failed : L → ℕ) (run : RunContext) (buffers : RunBuffers)
    (now : RunState S L) : Type 0 where
  pub begins : MayBegin (run_start run.problem.now run.plan.now now.stores run.base (length now.sources)
      (length now.links))
  pub held : AreHeld now.stores
  pub sound : All (λ h. IsState h.state) now.stores
  pub links : All (λ l. failed l < 2 ^ 64 - 1) now.links
  pub report : buffers.report ≡ record {
    ids = map (λ r. r.id) run.problem.now.rows;
    most = length run.problem.now.windows;
    steps = [];
  }
  pub orders : MAX_STORES ≤ vec_capacity buffers.orders

-- in each of this many steps each source gives at most 65,535 packets, and no store was offered more than 2^63 packets
-- before the first
pub record AreWithinLimits (steps : ℕ) (stores : List Held) (sources : List Supply) : Type 0 where
  pub few : (step : ℕ) → 1 ≤ step → step ≤ steps → AreFew step sources
  pub offered : All (λ h. h.state.offered ≤ 2 ^ 63) stores
