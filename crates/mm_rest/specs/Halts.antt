-- What is left of a problem after a run of it was halted in a step, all of whose arrivals are stored.
use Rattle.std.specs.Prelude.{◌≡◌, ℕ, ◌+◌, ◌-◌, ◌==◌, ◌&&◌, Bool, if◌then◌else◌, List, [], filter, flat_map, is_some}
use Rattle.std.specs.Prelude.{length, map, nat_lt, Option, None, Ok, option_map, slice_index, slice_index_or, sum_by}
use Rattle.std.specs.List.{list_any, range_with_len}
use Rattle.std.specs.Option.{unwrap_or}
use Rattle.mm_base.specs.declared.limits.TheConstants.{CHANNELS}
use Rattle.mm_problem.specs.declared.come.Arrivals.TheVariants.{Before}
use Rattle.mm_problem.specs.Document.{setup_of}
use Rattle.mm_problem.specs.Dumping.{Dumping, arrivals, channels, is_of, limit, place, steps, stores, window}
use Rattle.mm_problem.specs.Rest.{rest_of}
use Rattle.mm_problem.specs.Setup.{SetupRows}
use Rattle.mm_problem.specs.Texts.{SaysProblem}
use Rattle.mm_rest.specs.Rests.{plan_script, setup_from}
use Rattle.mm_rest.specs.declared.halt.HaltedStep.{HaltedStep}

-- the window of a step; of the first one this is left
abbrev pub window_left : Dumping → ℕ → ℕ → ℕ
window_left q left t = if t == 1 then left else window q t

-- what arrives in a store in a step; all that arrives in the first one is stored
abbrev pub arrivals_left : Dumping → ℕ → ℕ → ℕ
arrivals_left q t s = if t == 1 then 0 else arrivals q s t

-- the channels of which something is left, be it nothing: those with a limit
abbrev pub limited_by : Dumping → List (Option ℕ) → List ℕ
limited_by q left = filter (λ c. is_some (slice_index_or left c None)) (channels q)

-- the limit of a channel in a step; of that of the first one this is left
abbrev pub limit_left : Dumping → List (Option ℕ) → ℕ → ℕ → ℕ
limit_left q left t c = unwrap_or (if t == 1 then slice_index_or left c None else limit q c t) 0

-- the problem, whose steps can be carried out, when its first step has begun: all that arrives in it is stored, and
-- this is left of the window and of the channels' limits
abbrev pub begun : Dumping → ℕ → List (Option ℕ) → Dumping
begun q window limits = record {
  rows = q.rows;
  limits = q.limits;
  windows = map (window_left q window) (steps q);
  arrived = flat_map (λ t. map (arrivals_left q t) (stores q)) (steps q);
  limited = limited_by q limits;
  step_limits = flat_map (λ t. map (limit_left q limits t) (limited_by q limits)) (steps q);
  sized = [];
  step_sizes = [];
  come = Before;
}

-- what was spent of the window on orders that broke: what was not dumped
abbrev pub broken_spent : HaltedStep → ℕ
broken_spent halted = halted.spent - sum_by (λ n. n) halted.dumped.items

-- whether the store with this identifier is one of the channel's
abbrev pub belongs : Dumping → ℕ → List ℕ → Bool
belongs q c id = nat_lt (place q id) (length q.rows) && is_of q c (place q id)

-- whether an order of one of the channel's stores broke
abbrev pub is_broken : Dumping → HaltedStep → ℕ → Bool
is_broken q halted c = list_any (belongs q c) halted.broken.items

-- what the store dumped of the channel's blocks
abbrev pub dumped_by : Dumping → HaltedStep → ℕ → ℕ → ℕ
dumped_by q halted c s = if is_of q c s then slice_index halted.dumped.items s else 0

-- what was spent of a channel's limit: what its stores dumped, and where an order of one of them broke, what all orders
-- that broke spent
abbrev pub spent_by : Dumping → HaltedStep → ℕ → ℕ
spent_by q halted c = sum_by (dumped_by q halted c) (stores q)
    + (if is_broken q halted c then broken_spent halted else 0)

-- what is left of a channel's limit in the first step, if it has one
unfoldable pub limit_after : Dumping → HaltedStep → ℕ → Option ℕ
limit_after q halted c = option_map (λ n. n - spent_by q halted c) (limit q c 1)

-- the same of each channel
abbrev pub limits_left : Dumping → HaltedStep → List (Option ℕ)
limits_left q halted = map (limit_after q halted) (range_with_len 0 CHANNELS)

-- the problem whose first step was halted, from what the stores hold: what is left of that step, and the steps after it
unfoldable pub first_halted : Dumping → HaltedStep → Dumping
first_halted q halted = begun q (window q 1 - halted.spent) (limits_left q halted)

-- the problem of the halted step, with what is left of it, and of the steps after it
abbrev pub rest_of_halt : Dumping → ℕ → HaltedStep → Dumping
rest_of_halt q step halted = first_halted (rest_of q (step - 1) halted.held.items) halted

-- the text is the script of a setup and a forecast that say what is left after a halt in the step; the setup keeps its
-- routes and its limits
pub record IsHaltScript (m : SetupRows) (q : Dumping) (step : ℕ) (halted : HaltedStep) (text : List ℕ) : Type 0 where
  pub setup : List ℕ
  pub forecast : List ℕ
  pub says_problem : SaysProblem setup forecast (rest_of_halt q step halted)
  pub says_setup : setup_of setup ≡ Ok (setup_from m Before halted.held.items)
  pub text_is : text ≡ plan_script setup forecast
