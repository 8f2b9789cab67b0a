use Rattle.std.proofs.Common.{◌≡◌, ℕ, ◌+◌, ◌<◌, length, get_or, None}
use Rattle.std.specs.Option.{option_map}
use Rattle.std.specs.List.{sum_by}
use Rattle.mm_base.specs.declared.limits.TheConstants.{CHANNELS}
use Rattle.mm_problem.specs.Dumping.{stores_of, limit}
use Rattle.mm_plan.specs.Table.{amount}
use Rattle.mm_plan.specs.Fit.{in_step}
use Rattle.mm_plan.proofs.filling.unused_limits.Given as goal

-- of the channels so far
abbrev pub invariant-loop-channel : goal.invariant-loop-channel
invariant-loop-channel l = record {
  channels : length l.by_channel ≡ CHANNELS;
  unused : (c : ℕ) → c < l.channel → limit l.problem c l.step ≡ option_map (λ rest. sum_by (in_step (amount l.plan) l.step) (stores_of l.problem c) + rest) (get_or l.by_channel c None);
}
