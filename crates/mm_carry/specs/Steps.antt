-- The first steps of a run, carried out whole.
use Rattle.std.specs.Prelude.{◌≡◌, ℕ, ◌+◌, ◌-◌, ◌*◌, ◌<◌, ◌≤◌, List, [], ◌++◌, length, map, flat_map, sum_by, All}
use Rattle.std.specs.Prelude.{slice_index_or}
use Rattle.std.specs.List.{range_with_len}
use Rattle.mm_carry.specs.Words.{Amounts, Stored, Held, labels_of, id_at, given_in, Supply, times, places_of, Sent}
use Rattle.mm_carry.specs.Words.{all_sent, lost, Reported}
use Rattle.mm_carry.specs.StepRuns.{IsStepRun}
use Rattle.mm_carry.specs.Accounts.{IsAccounted}
use Rattle.mm_carry.specs.AsPlanned.{AtEach}
use Rattle.mm_carry.specs.Untaken.{AreShared}
use Rattle.mm_carry.specs.RunInput.{RunInput, offered, as_came, place_in_memory, store_state, step_orders}
use Rattle.mm_carry.specs.Numbers.{report_of, rows_by_counters, AreByCounters}
use Rattle.mm_carry.specs.RunState.{RunState}

-- the stores after each of the first steps: those of the memory before the first, and then in each step and store a
-- step run leads from the state that the step before left to the next. What an order was given stands by its store's
-- place in the memory, and its step
pub record AreStepRuns (m : RunInput) (steps : ℕ) (stores : ℕ → List Held) (gave : ℕ → ℕ → List Stored) : Type 0 where
  pub first : stores 0 ≡ m.memory.stores
  pub labels : (t : ℕ) → t ≤ steps → labels_of (stores t) ≡ labels_of m.memory.stores
  pub runs : AtEach (length m.problem.rows) steps
      (λ s t. IsStepRun (offered m s t) (m.amounts s t) (gave (place_in_memory m s) t)
      (store_state m (stores (t - 1)) s) (store_state m (stores t) s))

-- of the first steps the sources have nothing left, and what they give in other steps is untouched
pub record SourcesGave (steps : ℕ) (before after : List Supply) : Type 0 where
  pub nothing_left : (t : ℕ) → 1 ≤ t → t ≤ steps → All (λ s. s t ≡ []) after
  pub others : (t : ℕ) → (1 ≤ t → t ≤ steps → ⊥) → given_in t after ≡ given_in t before

-- what the orders of these stores were given in a step, order after order, each whole
abbrev pub sent_in : RunInput → (ℕ → ℕ → List Stored) → ℕ → List ℕ → List Sent
sent_in m gave t places = flat_map (λ k. all_sent (id_at (map (λ h. h.id) m.memory.stores) k) (gave k t)) places

-- the links have sent, step by step, what the orders that each of them took were given, and each order was one link's,
-- once; no send failed. Orders stand by their stores' places in the memory
pub record LinksSent {L : Type 0} (sent : L → List Sent) (failed : L → ℕ) (m : RunInput) (steps : ℕ)
    (gave : ℕ → ℕ → List Stored) (before after : List L) : Type 0 where
  pub took : ℕ → List (List ℕ)
  pub once : (k t : ℕ) → 1 ≤ t → t ≤ steps → sum_by (times k) (took t) ≡ times k (places_of (step_orders m t))
  pub links : (t : ℕ) → 1 ≤ t → t ≤ steps → length (took t) ≡ length before
  pub lists : (l : ℕ) → l < length before → slice_index_or (map sent after) l []
      ≡ slice_index_or (map sent before) l [] ++ flat_map (λ t. sent_in m gave t (slice_index_or (took t) l []))
      (range_with_len 1 steps)
  pub no_failure : map failed after ≡ map failed before

-- how many packets of each store the links took in each step, as amounts of a plan: as many as its order was given, as
-- often as a link took it
abbrev pub taken_amounts : RunInput → (ℕ → ℕ → List Stored) → (ℕ → List (List ℕ)) → Amounts
taken_amounts m gave took s t = sum_by (times (place_in_memory m s)) (took t) * length (gave (place_in_memory m s) t)

-- how many packets the order of each store was given in each step, as amounts of a plan
abbrev pub sent_amounts : RunInput → (ℕ → ℕ → List Stored) → Amounts
sent_amounts m gave s t = length (gave (place_in_memory m s) t)

-- the first steps of a run are carried out: the stores, the sources and the links are as they leave them, and the
-- report has the numbers of the plan, with what came in place of the forecast, which are those of the stores' counters,
-- row by row and in all
pub record StepsDone {L : Type 0} (sent : L → List Sent) (failed : L → ℕ) (m : RunInput) (sources : List Supply)
    (links : List L) (steps : ℕ) (after : RunState Supply L) (report : Reported) : Type 0 where
  -- the stores after each step, and what each order was given
  pub stores : ℕ → List Held
  pub gave : ℕ → ℕ → List Stored
  pub runs : AreStepRuns m steps stores gave
  pub stores_are : after.stores ≡ stores steps
  pub sources_are : SourcesGave steps sources after.sources
  pub links_are : LinksSent sent failed m steps gave links after.links
  -- of each store of the problem, what became of its packets: what the links sent is what its orders were given
  pub accounted : (s : ℕ) → s < length m.problem.rows
      → IsAccounted steps (offered m s) (gave (place_in_memory m s)) (λ t. store_state m (stores t) s)
  -- of all that the sources gave, what each store took, and what no route takes
  pub shared : AreShared m steps gave after.stores
  -- each store lost what the plan loses in it of what came
  pub losses : (s : ℕ) → s < length m.problem.rows → (store_state m after.stores s).lost
      ≡ (store_state m m.memory.stores s).lost + sum_by (lost (as_came m) m.amounts s) (range_with_len 1 steps)
  pub report_is : report ≡ report_of m.problem (as_came m) m.amounts steps
  pub rows : report.steps ≡ rows_by_counters m stores steps
  pub counted : AreByCounters m after.stores report.steps
