-- What a plan does to the stores of a problem.
use Rattle.std.specs.Prelude.{ℕ, zero, suc, ◌+◌, ◌-◌, min}
use Rattle.std.specs.List.{sum_by, range_with_len}
use Rattle.mm_problem.specs.declared.come.Arrivals.{Arrivals}
use Rattle.mm_problem.specs.declared.come.Arrivals.TheVariants.{Before, During}
use Rattle.mm_problem.specs.Dumping.{Dumping, size, start, arrivals, stores, steps}

-- ---- one store in one step

-- how many of the blocks that are there once the arrivals have come can leave: as many as the size where arrivals come
-- before dumps, else all
abbrev pub can_leave : Arrivals → ℕ → ℕ → ℕ
can_leave Before size there = min there size
can_leave During size there = there

-- how many of them a dump of this amount lets stay
abbrev pub stays_by : Arrivals → ℕ → ℕ → ℕ → ℕ
stays_by come size there dump = can_leave come size there - min dump (can_leave come size there)

-- how many of those that stay are held: as many as the size
abbrev pub held_by : Arrivals → ℕ → ℕ → ℕ
held_by Before size stay = stay
held_by During size stay = min stay size

-- how many are left as the step ends
abbrev pub left_by : Arrivals → ℕ → ℕ → ℕ → ℕ
left_by come size there dump = held_by come size (stays_by come size there dump)

-- how many are lost: those that cannot leave, and those that stay and are not held
abbrev pub lost_by : Arrivals → ℕ → ℕ → ℕ → ℕ
lost_by come size there dump =
    there - can_leave come size there + (stays_by come size there dump - left_by come size there dump)

-- ---- all steps

-- a plan: the blocks that are to leave each store in each step, if it holds as many
abbrev pub Amounts : Type 0
Amounts = ℕ → ℕ → ℕ

-- what stands in a store when a step has ended; step 0 ends as the first step begins
unfoldable pub left : Dumping → Amounts → ℕ → ℕ → ℕ
left q x s zero = start q s
left q x s (suc t) = left_by q.come (size q s (suc t)) (left q x s t + arrivals q s (suc t)) (x s (suc t))

-- what stood in it before a step, and what arrives in the step
abbrev pub there : Dumping → Amounts → ℕ → ℕ → ℕ
there q x s t = left q x s (t - 1) + arrivals q s t

-- how many of these blocks can leave
abbrev pub written : Dumping → Amounts → ℕ → ℕ → ℕ
written q x s t = can_leave q.come (size q s t) (there q x s t)

-- how many of them stay
abbrev pub stays : Dumping → Amounts → ℕ → ℕ → ℕ
stays q x s t = stays_by q.come (size q s t) (there q x s t) (x s t)

-- what a store loses in a step
abbrev pub lost : Dumping → Amounts → ℕ → ℕ → ℕ
lost q x s t = lost_by q.come (size q s t) (there q x s t) (x s t)

-- what a store loses over all steps
abbrev pub store_loss : Dumping → Amounts → ℕ → ℕ
store_loss q x s = sum_by (lost q x s) (steps q)

-- what all stores lose over all steps
abbrev pub loss : Dumping → Amounts → ℕ
loss q x = sum_by (store_loss q x) (stores q)

-- what the first stores lose over all steps
abbrev pub first_loss : ℕ → Dumping → Amounts → ℕ
first_loss k q x = sum_by (store_loss q x) (range_with_len 0 k)
