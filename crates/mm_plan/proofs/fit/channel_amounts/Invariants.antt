use Rattle.std.proofs.Common.{◌≡◌, ℕ, ◌*◌, ◌<◌, ◌≤◌, length, get_or}
use Rattle.std.specs.Prelude.{filter}
use Rattle.std.specs.List.{sum_by, range_with_len}
use Rattle.mm_base.specs.declared.limits.TheConstants.{MAX_BLOCKS, CHANNELS}
use Rattle.mm_problem.specs.Dumping.{is_of}
use Rattle.mm_plan.specs.Table.{amount}
use Rattle.mm_plan.specs.Fit.{in_step}
use Rattle.mm_plan.proofs.fit.channel_amounts.Given as goal

-- of the stores so far
abbrev pub invariant-loop-store : goal.invariant-loop-store
invariant-loop-store l = record {
  channels : length l.amounts ≡ CHANNELS;
  sums : (c : ℕ) → c < CHANNELS → get_or l.amounts c 0 ≡ sum_by (in_step (amount l.plan) l.step) (filter (is_of l.problem c) (range_with_len 0 l.store));
  most : (c : ℕ) → c < CHANNELS → get_or l.amounts c 0 ≤ l.store * MAX_BLOCKS;
}
