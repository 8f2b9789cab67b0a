-- How a memory goes on after a run that was halted: the rest is a run of its own, from what the stores hold.
use Rattle.std.specs.Prelude.{◌≡◌, ℕ, ◌<◌, false, true, List, ◌∷◌, length, map, All}
use Rattle.mm_problem.specs.Rest.{rest_of, rows_from, starts_fit}
use Rattle.mm_carry.specs.Words.{Dumping, IsFlyable, row, stores, Fits, HasShape, Table, amount, Stored, State}
use Rattle.mm_carry.specs.Words.{IsState, Held, AreHeld, labels_of, is_clock_late, Supply, Sent, Reported}
use Rattle.mm_carry.specs.Readiness.{AreCounts, HasLimit, MayBegin, run_start}
use Rattle.mm_carry.specs.RunInput.{RunInput, store_state}
use Rattle.mm_carry.specs.RunState.{RunState}
use Rattle.mm_carry.specs.declared.step.Stop.{Stop}
use Rattle.mm_carry.specs.Ending.{IsHaltedIn}
use Rattle.mm_carry.specs.Following.{AreFollowing, IsStoreRun, StoreRun, store_run}

-- how many packets each store of the problem holds
abbrev pub held_by : RunInput → List Held → List ℕ
held_by m left = map (λ s. length (store_state m left s).store.content) (stores m.problem)

-- a problem whose start volumes are what these stores hold, and whose stores are otherwise those of the run; a channel
-- of it has a limit only where one of the run had
pub record IsRestOf (m : RunInput) (left : List Held) (q : Dumping) : Type 0 where
  pub rows : q.rows ≡ rows_from m.problem.rows (held_by m left)
  pub limits : HasLimit q → HasLimit m.problem
  pub flyable : IsFlyable m.problem → IsFlyable q

-- after a halt the stores pass all tests before a run of the rest, where its plan has the shape and fits, the clock is
-- in time, and there are sources and links
abbrev pub HaltedRunsGoOn : {L : Type 0} → (L → List Sent) → (L → ℕ) → Type 0
HaltedRunsGoOn {L} sent failed = (m : RunInput) (plan : Table) (first : RunState Supply L) (step : ℕ)
    (left : RunState Supply L) (stop : Stop) (report : Reported)
    → IsHaltedIn sent failed m plan first step left stop report
    → AreHeld m.memory.stores → All (λ h. IsState h.state) m.memory.stores
    → (q : Dumping) (next : Table) (base sources links : ℕ) → IsRestOf m left.stores q → HasShape q next
    → is_clock_late left.stores base ≡ false → Fits q (amount next) → AreCounts sources links
    → MayBegin (run_start q next left.stores base sources links)

-- the start volumes fit in the stores, and the problem of the steps after any step is such a rest
abbrev pub HaltedRunsHaveRests : {L : Type 0} → (L → List Sent) → (L → ℕ) → Type 0
HaltedRunsHaveRests {L} sent failed = (m : RunInput) (plan : Table) (first : RunState Supply L) (step : ℕ)
    (left : RunState Supply L) (stop : Stop) (report : Reported)
    → IsHaltedIn sent failed m plan first step left stop report
    → AreHeld m.memory.stores → All (λ h. IsState h.state) m.memory.stores
    → (starts_fit m.problem.rows (held_by m left.stores) ≡ true)
    × ((after : ℕ) → IsRestOf m left.stores (rest_of m.problem after (held_by m left.stores)))

-- a run over the stores that another run left follows it, in each store that is one of both problems
abbrev pub RunsFollow : Type 0
RunsFollow = (m next : RunInput) (left : List Held) (s r : ℕ) (gave broke : List Stored) (later : List StoreRun)
    → labels_of left ≡ labels_of m.memory.stores → next.memory.stores ≡ left
    → (row next.problem r).id ≡ (row m.problem s).id → IsStoreRun (store_run m s left gave broke)
    → AreFollowing (store_state next next.memory.stores r) later
    → AreFollowing (store_state m m.memory.stores s) (store_run m s left gave broke ∷ later)
