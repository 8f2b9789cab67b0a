-- The losses, bounds and bad stretches of small problems, as worked out by hand.
use Rattle.std.proofs.Common.{◌≡◌, ℕ, List, [], ◌∷◌, Option, Some, None, length, codes, pos, negsuc, refl, inl}
use Rattle.std.proofs.Common.{inr, arith}
use Rattle.std.proofs.Math.ListN.{replicate}
use Rattle.std.proofs.lemmas.Bool.{false≢true}
use Rattle.std.proofs.lemmas.List.Elements.{All-nil, All-cons}
use Rattle.mm_base.specs.declared.kind.Kind.TheVariants.{Bounded}
use Rattle.mm_base.specs.declared.rows.StoreRow.{StoreRow}
use Rattle.mm_problem.specs.declared.come.Arrivals.{Arrivals}
use Rattle.mm_problem.specs.declared.come.Arrivals.TheVariants.{Before, During}
use Rattle.mm_problem.specs.Dumping.{Dumping, size}
use Rattle.mm_plan.specs.Table.{amount}
use Rattle.mm_plan.specs.Volumes.{Amounts, left, loss}
use Rattle.mm_plan.specs.declared.stretch.Stretch.{Stretch}
use Rattle.mm_cut.specs.Stretches.{IsStretch, AreStretches}
use Rattle.mm_cut.specs.Counts.{IsCounted, AreCounted}
use Rattle.mm_cut.specs.Cuts.{bound}
use Rattle.mm_cut.specs.FirstBad.{IsFirstBad}

abbrev store : List ℕ → ℕ → ℕ → ℕ → StoreRow
store id size start channel = record { id = id; size = size; start = start; kind = Bounded; channel = channel }

abbrev a : List ℕ
a = codes "A       "

abbrev b : List ℕ
b = codes "B       "

abbrev sci : List ℕ
sci = codes "SCI     "

-- no channel has a limit, and channel 0 has this one
abbrev unlimited : List (Option ℕ)
unlimited = replicate 8 None

abbrev limited : ℕ → List (Option ℕ)
limited blocks = Some blocks ∷ replicate 7 None

abbrev problem : List StoreRow → List (Option ℕ) → List ℕ → List ℕ → Dumping
problem rows limits windows arrived =
    record {
      rows = rows;
      limits = limits;
      windows = windows;
      arrived = arrived;
      limited = [];
      step_limits = [];
      sized = [];
      step_sizes = [];
      come = Before;
    }

-- a plan for as many stores, step by step
abbrev plan : ℕ → List ℕ → Amounts
plan stores amounts = amount (record { stores = stores; steps = length amounts; amounts = amounts })

abbrev stretch : List ℕ → ℕ → ℕ → Stretch
stretch id first last = record { store = id; first = first; last = last }

-- one store of size 4, which begins with this number of blocks
abbrev one_store : ℕ → Dumping
one_store start = problem (store sci 4 start 0 ∷ []) unlimited (2 ∷ 2 ∷ 0 ∷ []) (3 ∷ 3 ∷ 4 ∷ [])

first_run_loss : loss (one_store 0) (plan 1 (2 ∷ 2 ∷ 0 ∷ [])) ≡ 2
unfolding left size
first_run_loss = refl

first_run_bound : bound (one_store 0) (stretch sci 1 3 ∷ []) [] ≡ pos 2
unfolding size
first_run_bound = refl

plan_that_loses_more : loss (one_store 0) (plan 1 (2 ∷ 1 ∷ 0 ∷ [])) ≡ 3
unfolding left size
plan_that_loses_more = refl

opening_contents_loss : loss (one_store 2) (plan 1 (2 ∷ 2 ∷ 0 ∷ [])) ≡ 4
unfolding left size
opening_contents_loss = refl

opening_contents_bound : bound (one_store 2) (stretch sci 1 3 ∷ []) [] ≡ pos 4
unfolding size
opening_contents_bound = refl

-- two stores of size 3 that share a window of 2
abbrev two_stores : ℕ → List (Option ℕ) → Dumping
two_stores channel limits = problem (store a 3 0 0 ∷ store b 3 0 channel ∷ []) limits (2 ∷ 0 ∷ []) (3 ∷ 3 ∷ 2 ∷ 2 ∷ [])

abbrev both_stretches : List Stretch
both_stretches = stretch a 1 2 ∷ stretch b 1 2 ∷ []

two_stretches_share_a_window : bound (two_stores 0 unlimited) both_stretches [] ≡ pos 2
unfolding size
two_stretches_share_a_window = refl

channel_limit_shares : bound (two_stores 1 (limited 1)) both_stretches [] ≡ pos 2
unfolding size
channel_limit_shares = refl

two_stores_share_a_channel : bound (two_stores 0 (limited 1)) both_stretches (1 ∷ []) ≡ pos 3
unfolding size
two_stores_share_a_channel = refl

-- one store of size 2 that can be emptied in the second step alone
abbrev two_floods : Dumping
two_floods = problem (store sci 2 0 0 ∷ []) unlimited (0 ∷ 9 ∷ 0 ∷ []) (5 ∷ 0 ∷ 5 ∷ [])

two_stretches_of_one_store : bound two_floods (stretch sci 1 1 ∷ stretch sci 3 3 ∷ []) [] ≡ pos 6
unfolding size
two_stretches_of_one_store = refl

one_long_stretch : bound two_floods (stretch sci 1 3 ∷ []) [] ≡ negsuc 0
unfolding size
one_long_stretch = refl

amount_above_content : loss two_floods (plan 1 (0 ∷ 9 ∷ 0 ∷ [])) ≡ 6
unfolding left size
amount_above_content = refl

-- one store of size 3 whose channel lets 1 block through
abbrev slow_channel : Dumping
slow_channel = problem (store a 3 0 0 ∷ []) (limited 1) (5 ∷ 0 ∷ []) (3 ∷ 3 ∷ [])

channel_limit_loss : loss slow_channel (plan 1 (1 ∷ 0 ∷ [])) ≡ 2
unfolding left size
channel_limit_loss = refl

channel_limit_cut : bound slow_channel (stretch a 1 2 ∷ []) (1 ∷ []) ≡ pos 2
unfolding size
channel_limit_cut = refl

channel_limit_not_counted : bound slow_channel (stretch a 1 2 ∷ []) [] ≡ negsuc 1
unfolding size
channel_limit_not_counted = refl

-- an observation in a pass, in blocks of 2 kB: 90,000 arrive while 120,000 can leave, and the store holds 300
abbrev observed : Arrivals → Dumping
observed come =
    record (problem (store a 300 0 0 ∷ []) unlimited (30000 ∷ 120000 ∷ 570000 ∷ []) (0 ∷ 90000 ∷ 0 ∷ [])) {
      come = come;
    }

-- each block leaves as it arrives
observed_during : loss (observed During) (plan 1 (0 ∷ 90000 ∷ 0 ∷ [])) ≡ 0
unfolding left size
observed_during = refl

-- 90,000 - 300
observed_before : bound (observed Before) (stretch a 2 2 ∷ []) [] ≡ pos 89700
unfolding size
observed_before = refl

-- one store with a size for each step
abbrev sized : Arrivals → ℕ → ℕ → List ℕ → List ℕ → List ℕ → Dumping
sized come size start windows arrived sizes =
    record (problem (store a size start 0 ∷ []) unlimited windows arrived) {
      come = come;
      sized = 0 ∷ [];
      step_sizes = sizes;
    }

-- a bank that is off in steps 3 and 4
abbrev off : Arrivals → Dumping
off come = sized come 10 0 (2 ∷ 2 ∷ 2 ∷ 2 ∷ 2 ∷ []) (4 ∷ 4 ∷ 3 ∷ 3 ∷ 4 ∷ []) (10 ∷ 10 ∷ 0 ∷ 0 ∷ 10 ∷ [])

abbrev off_stretches : List Stretch
off_stretches = stretch a 1 3 ∷ stretch a 4 4 ∷ []

-- 4 + 4 + 3 - (2 + 2), and 3
off_before : bound (off Before) off_stretches [] ≡ pos 10
unfolding size
off_before = refl

off_before_loss : loss (off Before) (plan 1 (2 ∷ 2 ∷ 0 ∷ 0 ∷ 2 ∷ [])) ≡ 10
unfolding left size
off_before_loss = refl

-- 4 + 4 + 3 - (2 + 2 + 2), and 3 - 2
off_during : bound (off During) off_stretches [] ≡ pos 6
unfolding size
off_during = refl

off_during_loss : loss (off During) (plan 1 (2 ∷ 2 ∷ 2 ∷ 2 ∷ 2 ∷ [])) ≡ 6
unfolding left size
off_during_loss = refl

-- a deadline in step 3
abbrev deadline : Arrivals → Dumping
deadline come = sized come 9 3 (1 ∷ 1 ∷ 2 ∷ 5 ∷ 5 ∷ []) (2 ∷ 2 ∷ 0 ∷ 0 ∷ 1 ∷ []) (9 ∷ 9 ∷ 0 ∷ 9 ∷ 9 ∷ [])

-- 3 + 2 + 2 - (1 + 1)
deadline_before : bound (deadline Before) (stretch a 1 3 ∷ []) [] ≡ pos 5
unfolding size
deadline_before = refl

-- 3 + 2 + 2 - (1 + 1 + 2)
deadline_during : bound (deadline During) (stretch a 1 3 ∷ []) [] ≡ pos 3
unfolding size
deadline_during = refl

-- a stretch past the last step is bad
past_the_last_step : IsFirstBad (AreStretches (one_store 0)) (stretch sci 1 4 ∷ []) 1
past_the_last_step = record {
  first = omega arith;
  last = omega arith;
  before = record { each = All-nil (IsStretch (one_store 0)); apart = λ i j d before inside. absurd (omega arith) };
  here = λ are. absurd (omega (arith, (are.each 0 (stretch sci 1 4) (omega arith)).last));
}

-- so is one that shares a step with an earlier one of its store
overlap : IsFirstBad (AreStretches (one_store 0)) (stretch sci 1 2 ∷ stretch sci 2 3 ∷ []) 2
overlap = record {
  first = omega arith;
  last = omega arith;
  before = record {
    each = All-cons (IsStretch (one_store 0)) (stretch sci 1 2) []
        record { store = omega arith; first = omega arith; order = omega arith; last = omega arith }
        (All-nil (IsStretch (one_store 0)));
    apart = λ i j d before inside. absurd (omega arith);
  };
  here = λ are. elim (are.apart 0 1 (stretch sci 1 2) (omega arith) (omega arith) refl) [
    | inl before ↦ absurd (omega arith)
    | inr after ↦ absurd (omega arith)
  ];
}

-- a counted step that is not inner is bad, and so is one of a channel without a limit
outer_step_counted : IsFirstBad (AreCounted slow_channel (stretch a 1 2 ∷ [])) (2 ∷ []) 1
outer_step_counted = record {
  first = omega arith;
  last = omega arith;
  before = record {
    each = All-nil (IsCounted slow_channel (stretch a 1 2 ∷ []));
    once = λ i j d before inside. absurd (omega arith);
  };
  here = λ are. false≢true (are.each 0 2 (omega arith)).inner;
}

unlimited_channel_counted : ¬ AreCounted (record slow_channel { limits = unlimited }) (stretch a 1 2 ∷ []) (1 ∷ [])
unlimited_channel_counted are = false≢true ((are.each 0 1 (omega arith)).limited 0 (stretch a 1 2) (omega arith) refl)
