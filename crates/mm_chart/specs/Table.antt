-- The table of a plan: comma separated values (RFC 4180), a header, and then a record for each step and store.
use Rattle.std.specs.Prelude.{◌≡◌, ℕ, ◌+◌, ◌-◌, ◌≤◌, min, List, [], ◌∷◌, ◌++◌, codes, decimal, flat_map}
use Rattle.mm_base.specs.Characters.{line_feed}
use Rattle.mm_base.specs.Id.{id_text}
use Rattle.mm_problem.specs.Texts.{SaysProblem}
use Rattle.mm_cut.specs.Checking.{SaysSheet}
use Rattle.mm_plan.specs.Table.{amount}
use Rattle.mm_plan.specs.Volumes.{Amounts, left, written, lost}
use Rattle.mm_plan.specs.Sheet.{SheetRows}
use Rattle.mm_problem.specs.Dumping.{Dumping, row, window, arrivals, stores, steps}
use Rattle.mm_chart.specs.Svg.{comma}

-- what a plan dumps: the amount that is to leave, or all that can leave where that is less
abbrev pub dumped : Dumping → Amounts → ℕ → ℕ → ℕ
dumped q x s t = min (x s t) (written q x s t)

-- a cell after another of its record
abbrev pub next_cell : List ℕ → List ℕ
next_cell cell = comma ∷ cell

-- the cells that say which step and which store it is
abbrev pub place_cells : Dumping → ℕ → ℕ → List ℕ
place_cells q t s = decimal t ++ next_cell (decimal (window q t)) ++ next_cell (id_text (row q s).id)

-- the cells of a step and its window, with a comma after each
abbrev pub step_cells : ℕ → ℕ → List ℕ
step_cells t blocks = decimal t ++ next_cell (decimal blocks) ++ comma ∷ []

-- the cells that say what happens in the step, up to the end of the record
unfoldable pub volume_cells : ℕ → ℕ → ℕ → ℕ → List ℕ
volume_cells arrived lost dumped held =
    next_cell (decimal arrived) ++ next_cell (decimal lost) ++ next_cell (decimal dumped) ++ next_cell (decimal held)
    ++ line_feed ∷ []

-- what a step does to a store
unfoldable pub record_of : Dumping → Amounts → ℕ → ℕ → List ℕ
record_of q x t s = place_cells q t s ++ volume_cells (arrivals q s t) (lost q x s t) (dumped q x s t) (left q x s t)

-- the records of a step, the stores in order
unfoldable pub step_records : Dumping → Amounts → ℕ → List ℕ
step_records q x t = flat_map (record_of q x t) (stores q)

-- the header, and the records of all steps
unfoldable pub table : Dumping → Amounts → List ℕ
table q x = codes "step,window,store,arrived,lost,dumped,held\n" ++ flat_map (step_records q x) (steps q)

-- the table of the plan of a plan text, for the problem that a setup and a forecast say
pub record IsTableOf (setup forecast text octets : List ℕ) : Type 0 where
  pub problem : Dumping
  pub sheet : SheetRows
  pub says_problem : SaysProblem setup forecast problem
  pub says_sheet : SaysSheet problem text sheet
  pub table : octets ≡ table problem (amount sheet.plan)

-- in each record what stood in the store before the step and what arrives is what is lost, what is dumped and what is
-- held
abbrev pub RecordsBalance : Type 0
RecordsBalance = (q : Dumping) (x : Amounts) (s t : ℕ) → 1 ≤ t →
    left q x s (t - 1) + arrivals q s t ≡ lost q x s t + dumped q x s t + left q x s t
