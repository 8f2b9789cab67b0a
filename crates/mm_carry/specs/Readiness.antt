-- What is tested before a run, in which order.
use Rattle.std.specs.Prelude.{◌≡◌, ℕ, ◌<◌, ◌≤◌, Bool, true, false, ◌==◌, ◌⊎◌, List, length, slice_index_or, take, All}
use Rattle.std.specs.Prelude.{Option, Some, None, is_some}
use Rattle.mm_carry.specs.Words.{Dumping, IsFlyable, row, place, limit, Fits, IsFirstMisfit, Table, amount, HasShape}
use Rattle.mm_carry.specs.Words.{Held, store_of, is_ready, is_clock_late, Cause, NotFlyable, PlanShape, NotReady}
use Rattle.mm_carry.specs.Words.{SizeDiffers, OpeningDiffers, ChannelDiffers, ClockTooLate, PlanDoesNotFit, Counts}
use Rattle.mm_base.specs.declared.rows.StoreRow.{StoreRow}
use Rattle.mm_carry.specs.declared.requirement.Requirement.{Requirement}
use Rattle.mm_carry.specs.declared.requirement.Requirement.TheVariants.{Ready, Size, Opening, Channel}
use Rattle.mm_report.specs.declared.cause.TheConstants.{MAX_SOURCES}
use Rattle.mm_carry.specs.declared.readiness.TheConstants.{MAX_LINKS}

-- whether a store is as its row of the setup needs it: there and ready for a step; of the row's size; holding the start
-- volume; on the row's virtual channel
abbrev pub meets : Requirement → StoreRow → Option Held → Bool
meets requirement r None = false
meets Ready r (Some h) = is_ready h
meets Size r (Some h) = h.state.store.size == r.size
meets Opening r (Some h) = length h.state.store.content == r.start
meets Channel r (Some h) = h.channel == r.channel

-- whether the store at a place of the problem is as it needs to be
abbrev pub meets_at : Requirement → Dumping → List Held → ℕ → Bool
meets_at requirement q stores s = meets requirement (row q s) (store_of (row q s).id stores)

-- each store of the problem is as it needs to be
abbrev pub AllMeet : Requirement → Dumping → List Held → Type 0
AllMeet requirement q stores = (s : ℕ) → s < length q.rows → meets_at requirement q stores s ≡ true

-- the first store of the problem that is not
pub record IsFirstMismatch (requirement : Requirement) (q : Dumping) (stores : List Held) (id : List ℕ) : Type 0 where
  pub place : ℕ
  pub within : place < length q.rows
  pub named : id ≡ (row q place).id
  pub mismatch : meets_at requirement q stores place ≡ false
  pub before : (s : ℕ) → s < place → meets_at requirement q stores s ≡ true

-- whether a store is none of the problem's
abbrev pub is_unknown : Dumping → Held → Bool
is_unknown q h = place q h.id == length q.rows

-- each store is one of the problem's
abbrev pub NoneUnknown : Dumping → List Held → Type 0
NoneUnknown q stores = All (λ h. is_unknown q h ≡ false) stores

-- the first store that is none of the problem's
pub record IsFirstUnknown (q : Dumping) (stores : List Held) (id : List ℕ) : Type 0 where
  pub at : ℕ
  pub store : Held
  pub within : at < length stores
  pub stands : slice_index_or stores at store ≡ store
  pub named : id ≡ store.id
  pub unknown : is_unknown q store ≡ true
  pub before : All (λ h. is_unknown q h ≡ false) (take at stores)

-- a channel of the problem has a limit: it has one in each step or in none, and so in the first
abbrev pub HasLimit : Dumping → Type 0
HasLimit q = (c : ℕ) × (c < length q.limits) × (is_some (limit q c 1) ≡ true)

-- there are sources and links, and not too many
pub record AreCounts (sources links : ℕ) : Type 0 where
  pub some_source : 1 ≤ sources
  pub few_sources : sources ≤ MAX_SOURCES
  pub some_link : 1 ≤ links
  pub few_links : links ≤ MAX_LINKS

-- what a run would begin with: the problem and the plan, the stores, the moment before the first step, and how many
-- sources and links there are
pub record RunStart : Type 0 where
  pub problem : Dumping
  pub plan : Table
  pub stores : List Held
  pub base : ℕ
  pub sources : ℕ
  pub links : ℕ

abbrev pub run_start : Dumping → Table → List Held → ℕ → ℕ → ℕ → RunStart
run_start problem plan stores base sources links =
    record { problem = problem; plan = plan; stores = stores; base = base; sources = sources; links = links }

-- of the tests before a run, in their order, the first this many pass
pub record Passed (many : ℕ) (o : RunStart) : Type 0 where
  pub flyable : 1 ≤ many → IsFlyable o.problem
  pub shape : 2 ≤ many → HasShape o.problem o.plan
  pub ready : 3 ≤ many → AllMeet Ready o.problem o.stores
  pub known : 3 ≤ many → NoneUnknown o.problem o.stores
  pub sizes : 4 ≤ many → AllMeet Size o.problem o.stores
  pub openings : 5 ≤ many → AllMeet Opening o.problem o.stores
  pub channels : 6 ≤ many → HasLimit o.problem → AllMeet Channel o.problem o.stores
  pub in_time : 7 ≤ many → is_clock_late o.stores o.base ≡ false
  pub fits : 8 ≤ many → Fits o.problem (amount o.plan)
  pub counts : 9 ≤ many → AreCounts o.sources o.links

-- all tests pass
abbrev pub MayBegin : RunStart → Type 0
MayBegin o = Passed 9 o

-- the test of a cause is the first that fails
abbrev pub Stops : RunStart → Cause → Type 0
Stops o NotFlyable = ¬ IsFlyable o.problem
Stops o PlanShape = Passed 1 o × (¬ HasShape o.problem o.plan)
Stops o (NotReady id) = Passed 2 o × (IsFirstMismatch Ready o.problem o.stores id
    ⊎ (AllMeet Ready o.problem o.stores × IsFirstUnknown o.problem o.stores id))
Stops o (SizeDiffers id) = Passed 3 o × IsFirstMismatch Size o.problem o.stores id
Stops o (OpeningDiffers id) = Passed 4 o × IsFirstMismatch Opening o.problem o.stores id
Stops o (ChannelDiffers id) = Passed 5 o × HasLimit o.problem × IsFirstMismatch Channel o.problem o.stores id
Stops o ClockTooLate = Passed 6 o × (is_clock_late o.stores o.base ≡ true)
Stops o (PlanDoesNotFit step) = Passed 7 o × IsFirstMisfit o.problem (amount o.plan) step
Stops o Counts = Passed 8 o × (¬ AreCounts o.sources o.links)
Stops o cause = ⊥
